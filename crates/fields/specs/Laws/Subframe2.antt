-- The 576 bits of subframe 2 as the 33 fields and the reserved bits.
-- Assumes nothing.
use Rattle.std.specs.Prelude.{◌≡◌, refl, Bool, true, false, cond, List, [], ◌∷◌, ◌++◌, ℕ, zero, suc, ◌+◌, eqb, ℤ, pos, length, take, drop}
use Rattle.std.proofs.Common.{sym, ap, ◌∙◌, append-nil, arith, length-append, le-leb, ne_eqb, eqb-true}
use Rattle.std.proofs.lemmas.Bool.{lt-leb, eqb-false}
use Rattle.words.specs.Bits.{value_of, bits_of}
use Rattle.fields.specs.Table.{fields_in, bit_count, all_usable}
use Rattle.fields.specs.Counts.{counts_in, bits_of_counts, first_out}
use Rattle.fields.specs.Subframe2.{reserved, fields2, bits2, first_out2}
use Rattle.fields.specs.Laws.Table.{usable_tables, bits_subframe2, bit_count_append, usable_append}
use Rattle.fields.specs.Laws.Counts.{counts_append, bits_of_append, out_of_two, out_append}
use Rattle.fields.specs.CountsBack.{length_counts}
use Rattle.fields.specs.declared.table.Table.TheVariants.{Subframe2}

-- the number of the reserved bits
abbrev pub spare : List ℕ → ℕ
spare l = value_of (take 10 (drop (bit_count (fields_in Subframe2)) l))

-- 33 counts, and one for the reserved bits
pub as_many2 : (zs : List ℤ) (v : ℕ) → length zs ≡ length (fields_in Subframe2) → length (zs ++ pos v ∷ []) ≡ length fields2
unfolding fields2
as_many2 zs v n = omega (arith, length-append zs (pos v ∷ []), length-append (fields_in Subframe2) (reserved ∷ []))

pub bits_fields2 : bit_count fields2 ≡ 576
unfolding fields2 bit_count
bits_fields2 = omega (arith, bit_count_append (fields_in Subframe2) (reserved ∷ []), bits_subframe2)

pub usable_fields2 : all_usable fields2 ≡ true
unfolding fields2 all_usable
usable_fields2 = usable_append (fields_in Subframe2) (reserved ∷ []) (usable_tables Subframe2) refl

pub counts_fields2 : (l : List ℕ) → counts_in fields2 l ≡ counts_in (fields_in Subframe2) l ++ pos (spare l) ∷ []
unfolding fields2 counts_in
counts_fields2 l = counts_append (fields_in Subframe2) (reserved ∷ []) l

-- the bits of 33 counts, and ten zeros
pub bits2_is : (zs : List ℤ) → length zs ≡ length (fields_in Subframe2) → bits2 zs ≡ bits_of_counts (fields_in Subframe2) zs ++ bits_of 10 0
unfolding fields2 bits_of_counts
bits2_is zs n =
    bits_of_append (fields_in Subframe2) (reserved ∷ []) zs (pos 0 ∷ []) n
    ∙ ap (λ (x : List ℕ). bits_of_counts (fields_in Subframe2) zs ++ x) (append-nil (bits_of 10 0))

-- the reserved bits are out of range where they are not zero, and their first bit is 567
spare_out : (v : ℕ) → first_out (bit_count (fields_in Subframe2)) (reserved ∷ []) (pos v ∷ []) ≡ cond (eqb v 0) 0 567
unfolding first_out
spare_out zero = refl
spare_out (suc v) =
    rw (le-leb 0 (suc v) (omega arith), lt-leb (suc v) 0 (omega arith), ne_eqb (suc v) 0 (λ e. omega arith)) (omega (arith, bits_subframe2))

-- the first field out of range: one of the 33, and else the reserved bits
pub out_fields2 : (zs : List ℤ) (v : ℕ) → length zs ≡ length (fields_in Subframe2)
    → first_out 0 fields2 (zs ++ pos v ∷ []) ≡ out_of_two (first_out 0 (fields_in Subframe2) zs) (cond (eqb v 0) 0 567)
unfolding fields2
out_fields2 zs v n =
    let from : 0 + bit_count (fields_in Subframe2) ≡ bit_count (fields_in Subframe2) = omega arith in
    out_append 0 (fields_in Subframe2) (reserved ∷ []) zs (pos v ∷ []) n
    ∙ ap (out_of_two (first_out 0 (fields_in Subframe2) zs))
    (ap (λ (k : ℕ). first_out k (reserved ∷ []) (pos v ∷ [])) from ∙ spare_out v)

pub first_out2_lem : (l : List ℕ)
    → first_out2 l ≡ out_of_two (first_out 0 (fields_in Subframe2) (counts_in (fields_in Subframe2) l)) (cond (eqb (spare l) 0) 0 567)
first_out2_lem l =
    ap (first_out 0 fields2) (counts_fields2 l) ∙ out_fields2 (counts_in (fields_in Subframe2) l) (spare l) (length_counts (fields_in Subframe2) l)

-- where neither is out of range, both are in it
pub neither_out : (a v : ℕ) → out_of_two a (cond (eqb v 0) 0 567) ≡ 0 → (a ≡ 0) × (v ≡ 0)
neither_out a v e = go (eqb a 0) (eqb v 0) refl refl e
  where
    go : (s t : Bool) → eqb a 0 ≡ s → eqb v 0 ≡ t → cond s (cond t 0 567) a ≡ 0 → (a ≡ 0) × (v ≡ 0)
    go true true p q e = (eqb-true a 0 p, eqb-true v 0 q)
    go true false p q e = absurd (let z : ◌≡◌ {A = ℕ} 0 567 = sym e in omega arith)
    go false t p q e = absurd (eqb-false a 0 p e)
