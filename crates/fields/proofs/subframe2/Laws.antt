-- What reading and writing subframe 2 give, case by case as the code finds it.
-- Assumes nothing.
use mathlib.Core.Path.{◌≡◌, refl, sym, ap, ap₂, ◌∙◌}
use mathlib.Core.Bool.{Bool, true, false, cond, ◌&&◌}
use mathlib.Core.List.{List, [], ◌++◌, append-nil}
use Prim.Native.Nat.{ℕ, ◌+◌}
use native.Mathlib.Omega.{arith}
use lib.Dec.{eqb, lit<}
use lib.IntN.{ℤ}
use lib.ListN.{length, take, drop, drop_of_length-le}
use lib.Seq.{take_at}
use borrow.Author.Tests.{eq-eqb, ne_eqb, eqb-true, eqb-false}
use Rattle.words.specs.Bits.{value_of, bits_of, bits_at, number_bytes}
use Rattle.words.specs.Refusal.{LENGTH, FIELD_2, refused_at, done_if, in_turn, left_if, left_by, given_by, Answer, Done}
use Rattle.words.specs.Laws.Turns.{both_done, test_done, not_done}
use Rattle.fields.specs.Table.{fields_in, bit_count}
use Rattle.fields.specs.Counts.{counts_in, bits_of_counts, first_out, out_answer}
use Rattle.fields.specs.Subframe2.{bits2, first_out2, fields_answer, counts_answer, counts_judged, fields_written, fields_bytes}
use Rattle.fields.specs.Laws.Table.{count_subframe2, bits_subframe2}
use Rattle.fields.specs.Laws.Counts.{out_of_two}
use Rattle.fields.specs.Laws.Subframe2.{spare, bits2_is, first_out2_lem}
use Rattle.fields.specs.CountsBack.{length_bits_of}
use Rattle.fields.proofs.counts.Laws.{number_put}
use Rattle.words.specs.declared.refusal.Refusal.{Refusal}
use Rattle.std.specs.Prelude.{Result, Ok, Err}
use Rattle.fields.specs.declared.table.Table.TheVariants.{Subframe2}

-- ---- judging counts

module _ (zs : List ℤ) where
  -- counts that are not refused are 33 and in range
  pub done_counts : counts_judged zs ≡ Done → (length zs ≡ 33) × (first_out 0 (fields_in Subframe2) zs ≡ 0)
  done_counts e =
      let b = both_done (done_if (eqb (length zs) 33) LENGTH 0) (counts_answer zs) e in (
        eqb-true (length zs) 33 (test_done (eqb (length zs) 33) LENGTH 0 b.0),
        eqb-true (first_out 0 (fields_in Subframe2) zs) 0 (test_done (eqb (first_out 0 (fields_in Subframe2) zs) 0) FIELD_2 (first_out 0 (fields_in Subframe2) zs) b.1),
      )

-- ---- reading

module _ (l : List ℕ) where
  -- the answer by the place of the first field out of range
  by_place : (p : ℕ) → first_out2 l ≡ p → given_by (done_if (eqb p 0) FIELD_2 p) (counts_in (fields_in Subframe2) l)
      ≡ given_by (fields_answer l) (counts_in (fields_in Subframe2) l)
  by_place p e = ap (λ (q : ℕ). given_by (done_if (eqb q 0) FIELD_2 q) (counts_in (fields_in Subframe2) l)) (sym e)

  refused_at_lem : (p : ℕ) → first_out2 l ≡ p → (p ≡ 0 → ⊥) → refused_at FIELD_2 p ≡ given_by (fields_answer l) (counts_in (fields_in Subframe2) l)
  refused_at_lem p e n =
      ap (λ (t : Bool). given_by (done_if t FIELD_2 p) (counts_in (fields_in Subframe2) l)) (sym (ne_eqb p 0 n)) ∙ by_place p e

  -- a count out of range
  pub count_out : (counts : List ℤ) (p : ℕ) → counts ≡ counts_in (fields_in Subframe2) l → p ≡ first_out 0 (fields_in Subframe2) counts
      → (p ≡ 0 → ⊥) → refused_at FIELD_2 p ≡ given_by (fields_answer l) (counts_in (fields_in Subframe2) l)
  count_out counts p c e n =
      let q : p ≡ first_out 0 (fields_in Subframe2) (counts_in (fields_in Subframe2) l) = e ∙ ap (first_out 0 (fields_in Subframe2)) c in
      refused_at_lem p
      (first_out2_lem l ∙ ap (λ (a : ℕ). out_of_two a (cond (eqb (spare l) 0) 0 567)) (sym q)
      ∙ ap (λ (t : Bool). cond t (cond (eqb (spare l) 0) 0 567) p) (ne_eqb p 0 n)) n

  -- so judging the counts that were read refuses as reading does
  pub count_judged : (counts : List ℤ) (r : Refusal) → counts ≡ counts_in (fields_in Subframe2) l
      → out_answer FIELD_2 0 (fields_in Subframe2) counts ≡ Err r → Err r ≡ given_by (fields_answer l) (counts_in (fields_in Subframe2) l)
  count_judged counts r c e = go (eqb place 0) refl
    where
      place : ℕ
      place = first_out 0 (fields_in Subframe2) counts

      is : (t : Bool) → eqb place 0 ≡ t → Err r ≡ done_if t FIELD_2 place
      is t q = sym e ∙ ap (λ (t : Bool). done_if t FIELD_2 place) q

      go : (t : Bool) → eqb place 0 ≡ t → Err r ≡ given_by (fields_answer l) (counts_in (fields_in Subframe2) l)
      go true q = absurd (not_done r.number r.place (is true q))
      go false q = ap (λ (a : Answer). given_by a []) (is false q) ∙ count_out counts place c refl (eqb-false place 0 q)

  -- none of the 33: the reserved bits decide
  within_range : (counts : List ℤ) → counts ≡ counts_in (fields_in Subframe2) l → first_out 0 (fields_in Subframe2) counts ≡ 0
      → first_out2 l ≡ cond (eqb (spare l) 0) 0 567
  within_range counts c e =
      first_out2_lem l
      ∙ ap (λ (a : ℕ). out_of_two a (cond (eqb (spare l) 0) 0 567)) (ap (first_out 0 (fields_in Subframe2)) (sym c) ∙ e)

  -- the number of the reserved bits, as it is taken
  pub spare_is : (v end : ℕ) → v ≡ value_of (bits_at l end 10) → end ≡ bit_count (fields_in Subframe2) → v ≡ spare l
  spare_is v end e f = e ∙ ap (λ (n : ℕ). value_of (take 10 (drop n l))) f

  -- reserved bits set
  pub spare_set : (counts : List ℤ) (p : ℕ) → counts ≡ counts_in (fields_in Subframe2) l → first_out 0 (fields_in Subframe2) counts ≡ 0
      → (spare l ≡ 0 → ⊥) → p ≡ bit_count (fields_in Subframe2) + 1
      → refused_at FIELD_2 p ≡ given_by (fields_answer l) (counts_in (fields_in Subframe2) l)
  spare_set counts p c e n f =
      let place : 567 ≡ p = omega (arith, bits_subframe2) in
      refused_at_lem p (within_range counts c e ∙ ap (λ (t : Bool). cond t 0 567) (ne_eqb (spare l) 0 n) ∙ place) (λ z. omega arith)

  -- all in range
  pub all_in : (counts : List ℤ) → counts ≡ counts_in (fields_in Subframe2) l → first_out 0 (fields_in Subframe2) counts ≡ 0 → spare l ≡ 0
      → ◌≡◌ {A = Result (List ℤ) Refusal} (Ok counts) (given_by (fields_answer l) (counts_in (fields_in Subframe2) l))
  all_in counts c e n =
      ap (λ (x : List ℤ). given_by Done x) c
      ∙ by_place 0 (within_range counts c e ∙ ap (λ (v : ℕ). cond (eqb v 0) 0 567) n)

-- ---- writing

module _ (zs : List ℤ) (out : List ℕ) where
  -- into 576 bytes, the counts alone decide
  pub by_counts : length out ≡ 576 → (fields_written zs out ≡ counts_judged zs) × (fields_bytes zs out ≡ left_by (counts_judged zs) (bits2 zs) out)
  by_counts m = go (eqb (length zs) 33) (eqb (first_out 0 (fields_in Subframe2) zs) 0) (eqb (length out) 576) (eq-eqb (length out) 576 m)
    where
      p : ℕ
      p = first_out 0 (fields_in Subframe2) zs

      go : (s none t : Bool) → t ≡ true
          → (in_turn (done_if (s && t) LENGTH 0) (done_if none FIELD_2 p) ≡ in_turn (done_if s LENGTH 0) (done_if none FIELD_2 p))
          × (left_if (s && t && none) (bits2 zs) out ≡ left_by (in_turn (done_if s LENGTH 0) (done_if none FIELD_2 p)) (bits2 zs) out)
      go true true true e = (refl, refl)
      go true false true e = (refl, refl)
      go false none true e = (refl, refl)
      go s none false e = absurd (let z : ◌≡◌ {A = ℕ} 0 1 = cc in omega arith)

  pub judged_done : length out ≡ 576 → counts_judged zs ≡ Done → (new : List ℕ) → new ≡ bits2 zs
      → (Done ≡ fields_written zs out) × (new ≡ fields_bytes zs out)
  judged_done m e new q =
      let b = by_counts m in
      (sym (b.0 ∙ e), q ∙ sym (b.1 ∙ ap (λ (a : Answer). left_by a (bits2 zs) out) e))

  -- the bits of the counts, and behind them ten zeros
  pub written_bits2 : (row : List ℕ) (end : ℕ) → length zs ≡ 33 → length row ≡ 576 → end ≡ bit_count (fields_in Subframe2)
      → row ≡ bits_of_counts (fields_in Subframe2) zs ++ drop (0 + bit_count (fields_in Subframe2)) out → number_bytes row end 10 0 ≡ bits2 zs
  written_bits2 row end n m f e =
      let bits = bits_of_counts (fields_in Subframe2) zs in
      let many : length zs ≡ length (fields_in Subframe2) = omega (arith, count_subframe2) in
      let place : end ≡ 566 = f ∙ bits_subframe2 in
      number_put row end 10 0 (omega arith) (lit< tt)
      ∙ ap₂ (λ (x y : List ℕ). x ++ bits_of 10 0 ++ y)
      (ap (take end) e ∙ take_at bits (drop (0 + bit_count (fields_in Subframe2)) out) end (length_bits_of (fields_in Subframe2) zs many ∙ sym f))
      (drop_of_length-le row {i = end + 10} (omega arith))
      ∙ append-nil (bits ++ bits_of 10 0)
      ∙ sym (bits2_is zs many)
