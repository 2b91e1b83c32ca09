-- Good contents: their bits, and what stands in a frame of them.
-- Assumes nothing.
use Rattle.std.specs.Prelude.{◌≡◌, Bool, List, [], ◌∷◌, ◌++◌, ◌⊎◌, ◌≢◌, ℕ, eqb, ℤ, pos, length, take, drop}
use Rattle.std.proofs.Common.{sym, ap, ◌∙◌, append-nil, inl, inr, arith, take_all, take_at, ne_eqb, eqb-true}
use Rattle.words.specs.Bits.{IsBits}
use Rattle.words.specs.Refusal.{FIELD_2, FIELD_3, done_if, number_of, Done}
use Rattle.tables.specs.Laws.Cases.{same_or_not}
use Rattle.tables.specs.declared.matrix.Subframe.{Subframe}
use Rattle.tables.specs.declared.matrix.Subframe.TheVariants.{Two, Three}
use Rattle.fields.specs.Table.{fields_in, bit_count}
use Rattle.fields.specs.Counts.{counts_in, bits_of_counts, AllInRange, first_out}
use Rattle.fields.specs.CountsBack.{length_counts, counts_back, count_bits_back, none_out, in_range_none_out}
use Rattle.fields.specs.FieldsBack.{length_bits2, bits2_are, with_spare}
use Rattle.fields.specs.Pages.{PAGE_BITS, HEAD_BITS, page_answer, number_in, kind_of, page_fields, page_counts, range_answer}
use Rattle.fields.specs.Subframe2.{fields2, bits2, first_out2, fields_answer}
use Rattle.fields.specs.Laws.Answers.{judged_right}
use Rattle.fields.specs.Laws.Subframe2.{spare, bits_fields2, usable_fields2, counts_fields2, first_out2_lem, neither_out}
use Rattle.fields.specs.Laws.Pages.{one_asked, only_one_out}
use Rattle.fields.specs.declared.table.Table.TheVariants.{Subframe2, Page1}
use Rattle.frames.specs.Frame.{Contents, GoodContents, bits_before, bits_from}
use Rattle.frames.specs.Laws.Blocks.{HaveBits}
use Rattle.words.specs.Laws.Turns.{test_done}

-- 250 page bits are judged by their fields alone
pub page_judged : (l : List ℕ) → length l ≡ PAGE_BITS → IsBits l → page_answer l ≡ range_answer l
page_judged l long bits = judged_right PAGE_BITS (length l) l (range_answer l) long bits

pub good_bits : (c : Contents) → GoodContents c → HaveBits c
good_bits c good = record { many = many; are = are }
  where
    many : (s : Subframe) → length (bits_from s c) ≡ bits_before s
    many Two = length_bits2 c.counts good.fields.as_many
    many Three = good.long

    are : (s : Subframe) → IsBits (bits_from s c)
    are Two = bits2_are c.counts
    are Three = good.bits

-- ---- the fields of subframe 2

-- counts in range are found in their bits, and nothing but zeros behind them
pub counts_found : (zs : List ℤ) → AllInRange (fields_in Subframe2) zs → counts_in fields2 (bits2 zs) ≡ zs ++ pos 0 ∷ []
counts_found zs h =
    ap (counts_in fields2) (sym (append-nil (bits2 zs))) ∙ counts_back fields2 (zs ++ pos 0 ∷ []) [] usable_fields2 (with_spare zs h)

-- 576 bits that stand for counts and zeros are the bits of those counts
pub bits_found : (l : List ℕ) (zs : List ℤ) → length l ≡ 576 → IsBits l → counts_in fields2 l ≡ zs ++ pos 0 ∷ [] → l ≡ bits2 zs
bits_found l zs long are e =
    sym (take_all (bit_count fields2) l (omega (arith, bits_fields2)))
    ∙ sym (count_bits_back fields2 l are (omega (arith, bits_fields2)))
    ∙ ap (bits_of_counts fields2) e

-- judging them
pub fields_done : (l : List ℕ) (zs : List ℤ) → counts_in fields2 l ≡ zs ++ pos 0 ∷ [] → AllInRange (fields_in Subframe2) zs → fields_answer l ≡ Done
fields_done l zs e h =
    let none : first_out2 l ≡ 0 = ap (first_out 0 fields2) e ∙ in_range_none_out 0 fields2 (zs ++ pos 0 ∷ []) (with_spare zs h) in
    ap (λ (p : ℕ). done_if (eqb p 0) FIELD_2 p) none

pub done_fields : (l : List ℕ) → fields_answer l ≡ Done
    → AllInRange (fields_in Subframe2) (counts_in (fields_in Subframe2) l) × (counts_in fields2 l ≡ counts_in (fields_in Subframe2) l ++ pos 0 ∷ [])
done_fields l e =
    let zs = counts_in (fields_in Subframe2) l in
    let none = neither_out (first_out 0 (fields_in Subframe2) zs) (spare l)
    (sym (first_out2_lem l) ∙ eqb-true (first_out2 l) 0 (test_done (eqb (first_out2 l) 0) FIELD_2 (first_out2 l) e)) in (
      none_out 0 (fields_in Subframe2) zs (length_counts (fields_in Subframe2) l) none.0,
      counts_fields2 l ∙ ap (λ (v : ℕ). zs ++ pos v ∷ []) none.1,
    )

-- counts that stand before zeros are those of the 33 fields
pub counts_are : (l : List ℕ) (zs : List ℤ) → counts_in fields2 l ≡ zs ++ pos 0 ∷ [] → length zs ≡ length (fields_in Subframe2)
    → counts_in (fields_in Subframe2) l ≡ zs
counts_are l zs e n =
    let found = counts_in (fields_in Subframe2) l in
    let many = length_counts (fields_in Subframe2) l in
    sym (take_at found (pos (spare l) ∷ []) (length (fields_in Subframe2)) many)
    ∙ ap (take (length (fields_in Subframe2))) (sym (counts_fields2 l) ∙ e)
    ∙ take_at zs (pos 0 ∷ []) (length (fields_in Subframe2)) n

-- ---- the page

-- the first bit of the first field out of its range, 0 where there is none
abbrev pub first_out3 : List ℕ → ℕ
first_out3 l = first_out HEAD_BITS (page_fields (kind_of (number_in l))) (page_counts (kind_of (number_in l)) l)

-- only page 1 has a field that can be out of range
pub other_page : (l : List ℕ) → (number_in l ≡ 1 → ⊥) → first_out3 l ≡ 0
other_page l h = go (same_or_not (first_out3 l) 0)
  where
    go : (first_out3 l ≡ 0) ⊎ (first_out3 l ≢ 0) → first_out3 l ≡ 0
    go (inl e) = e
    go (inr ne) =
        absurd (h (one_asked (number_in l)
        (only_one_out (kind_of (number_in l)) (drop HEAD_BITS l) (ap (λ (t : Bool). number_of (done_if t FIELD_3 (first_out3 l))) (ne_eqb (first_out3 l) 0 ne)))))

-- page 1's fields are judged by their own ranges
pub page_1_out : (l : List ℕ) → number_in l ≡ 1 → first_out3 l ≡ first_out HEAD_BITS (fields_in Page1) (counts_in (fields_in Page1) (drop HEAD_BITS l))
page_1_out l e = ap (λ (n : ℕ). first_out HEAD_BITS (page_fields (kind_of n)) (page_counts (kind_of n) l)) e

pub page_done : (l : List ℕ) → (number_in l ≡ 1 → AllInRange (fields_in Page1) (counts_in (fields_in Page1) (drop HEAD_BITS l)))
    → range_answer l ≡ Done
page_done l h = ap (λ (p : ℕ). done_if (eqb p 0) FIELD_3 p) (none (same_or_not (number_in l) 1))
  where
    none : (number_in l ≡ 1) ⊎ (number_in l ≢ 1) → first_out3 l ≡ 0
    none (inl e) = page_1_out l e ∙ in_range_none_out HEAD_BITS (fields_in Page1) (counts_in (fields_in Page1) (drop HEAD_BITS l)) (h e)
    none (inr n) = other_page l n

pub done_page : (l : List ℕ) → range_answer l ≡ Done → number_in l ≡ 1
    → AllInRange (fields_in Page1) (counts_in (fields_in Page1) (drop HEAD_BITS l))
done_page l e one =
    none_out HEAD_BITS (fields_in Page1) (counts_in (fields_in Page1) (drop HEAD_BITS l)) (length_counts (fields_in Page1) (drop HEAD_BITS l))
    (sym (page_1_out l one) ∙ eqb-true (first_out3 l) 0 (test_done (eqb (first_out3 l) 0) FIELD_3 (first_out3 l) e))
