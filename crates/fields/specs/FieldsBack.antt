-- THEOREMS: the record of subframe 2 and its 576 bits, there and back; where it is refused, and that a refusal leaves the bytes; where
-- fields stand.
-- Assumes nothing.
use Rattle.std.specs.Prelude.{◌≡◌, refl, Ok, Bool, true, false, cond, ◌&&◌, List, [], ◌∷◌, ◌++◌, ℕ, eqb, ℤ, pos, length}
use Rattle.std.proofs.Common.{sym, ap, ap₂, ◌∙◌, append-nil, arith, take_all, ne_eqb}
use Rattle.words.specs.Bits.{IsBits, bits_of}
use Rattle.words.specs.Refusal.{LENGTH, FIELD_2, refused_at, done_if, in_turn, left_if, given_by, Done}
use Rattle.words.specs.Unchanged.{Refuses}
use Rattle.fields.specs.Table.{subframe2_rows, fields_in, bit_count, first_bit}
use Rattle.fields.specs.Counts.{counts_in, bits_of_counts, AllInRange, first_out, FirstOutAt}
use Rattle.fields.specs.Subframe2.{fields2, bits2, first_out2, fields_answer, fields_read, right_lengths2, counts_answer, fields_written, fields_bytes}
use Rattle.fields.specs.Laws.Table.{usable_tables}
use Rattle.fields.specs.Laws.Answers.{judged_right, refused_at_place, counts_judged_lem, counts_right, counts_wrong}
use Rattle.fields.specs.Laws.Counts.{out_of_two}
use Rattle.fields.specs.Laws.Subframe2.{spare, as_many2, bits_fields2, usable_fields2, counts_fields2, bits2_is, out_fields2, first_out2_lem, neither_out}
use Rattle.fields.specs.CountsBack.{length_bits_of, bits_of_are, counts_back, count_bits_back, none_out, in_range_none_out}
use Rattle.fields.specs.declared.table.Table.TheVariants.{Subframe2}

-- ---- there and back

-- The bits of 33 counts are 576.
pub length_bits2 : (zs : List ℤ) → length zs ≡ length (fields_in Subframe2) → length (bits2 zs) ≡ 576
length_bits2 zs n = length_bits_of fields2 (zs ++ pos 0 ∷ []) (as_many2 zs 0 n) ∙ bits_fields2

-- They are bits.
pub bits2_are : (zs : List ℤ) → IsBits (bits2 zs)
bits2_are zs = bits_of_are fields2 (zs ++ pos 0 ∷ [])

module _ (zs : List ℤ) (h : AllInRange (fields_in Subframe2) zs) where
  -- With zeros in the reserved bits, all that stands in the 576 bits is in range.
  pub with_spare : AllInRange fields2 (zs ++ pos 0 ∷ [])
  with_spare =
      none_out 0 fields2 (zs ++ pos 0 ∷ []) (as_many2 zs 0 h.as_many)
      (out_fields2 zs 0 h.as_many ∙ ap (λ (p : ℕ). out_of_two p 0) (in_range_none_out 0 (fields_in Subframe2) zs h))

  none_found : first_out2 (bits2 zs) ≡ 0
  none_found =
      ap (λ (l : List ℕ). first_out 0 fields2 (counts_in fields2 l)) (sym (append-nil (bits2 zs)))
      ∙ ap (first_out 0 fields2) (counts_back fields2 (zs ++ pos 0 ∷ []) [] usable_fields2 with_spare)
      ∙ in_range_none_out 0 fields2 (zs ++ pos 0 ∷ []) with_spare

  found_again : counts_in (fields_in Subframe2) (bits2 zs) ≡ zs
  found_again =
      ap (counts_in (fields_in Subframe2)) (bits2_is zs h.as_many)
      ∙ counts_back (fields_in Subframe2) zs (bits_of 10 0) (usable_tables Subframe2) h

  -- Counts in range, written and read, are the same counts.
  pub fields_written_read : fields_read (bits2 zs) ≡ Ok zs
  fields_written_read =
      ap₂ given_by
      (judged_right 576 (length (bits2 zs)) (bits2 zs) (fields_answer (bits2 zs)) (length_bits2 zs h.as_many) (bits2_are zs)
      ∙ counts_right FIELD_2 0 fields2 (counts_in fields2 (bits2 zs)) none_found)
      found_again

-- Bits that reading takes, read and written, are the same bits.
pub fields_read_written : (l : List ℕ) → length l ≡ 576 → IsBits l → fields_answer l ≡ Done → bits2 (counts_in (fields_in Subframe2) l) ≡ l
fields_read_written l n are done =
    let zs : List ℤ = counts_in (fields_in Subframe2) l in
    let within_range : first_out2 l ≡ 0 = counts_judged_lem FIELD_2 0 fields2 (counts_in fields2 l) done in
    let none = neither_out (first_out 0 (fields_in Subframe2) zs) (spare l) (sym (first_out2_lem l) ∙ within_range) in
    ap (bits_of_counts fields2) (ap (λ (v : ℕ). zs ++ pos v ∷ []) (sym none.1) ∙ sym (counts_fields2 l))
    ∙ count_bits_back fields2 l are (omega (arith, bits_fields2))
    ∙ take_all (bit_count fields2) l (omega (arith, bits_fields2))

-- ---- refusals

-- Counts of which a first one is out of range are refused 6 at its field's first bit.
pub counts_refused : (zs : List ℤ) (p : ℕ) → FirstOutAt 0 (fields_in Subframe2) zs p → counts_answer zs ≡ refused_at FIELD_2 p
counts_refused zs p o = counts_wrong FIELD_2 0 (fields_in Subframe2) zs p o

-- So are bits, where the reserved bits are a field behind the 33.
pub bits_refused : (l : List ℕ) (p : ℕ) → FirstOutAt 0 fields2 (counts_in fields2 l) p → fields_answer l ≡ refused_at FIELD_2 p
bits_refused l p o = counts_wrong FIELD_2 0 fields2 (counts_in fields2 l) p o

-- Reserved bits that are not zero, behind 33 counts in range, are refused 6 at 567.
pub reserved_refused : (l : List ℕ) → AllInRange (fields_in Subframe2) (counts_in (fields_in Subframe2) l) → (spare l ≡ 0 → ⊥)
    → fields_answer l ≡ refused_at FIELD_2 567
reserved_refused l h n =
    refused_at_place FIELD_2 (first_out2 l) 567
    (first_out2_lem l
    ∙ ap₂ out_of_two (in_range_none_out 0 (fields_in Subframe2) (counts_in (fields_in Subframe2) l) h)
    (ap (λ (t : Bool). cond t 0 567) (ne_eqb (spare l) 0 n))) (λ z. omega arith)

-- Where writing is refused, the bytes are as they were.
pub fields_unchanged : (zs : List ℤ) (out : List ℕ) → Refuses (fields_written zs out) → fields_bytes zs out ≡ out
fields_unchanged zs out h = go (right_lengths2 zs out) (eqb (first_out 0 (fields_in Subframe2) zs) 0) h
  where
    go : (long none : Bool) → Refuses (in_turn (done_if long LENGTH 0) (done_if none FIELD_2 (first_out 0 (fields_in Subframe2) zs)))
        → left_if (long && none) (bits2 zs) out ≡ out
    go true true h = absurd (h refl)
    go true false h = refl
    go false none h = refl

-- ---- places

-- The reserved bits behind the 33 fields begin at 567.
pub reserved_place : first_bit Subframe2 33 ≡ 567
unfolding fields_in subframe2_rows bit_count
reserved_place = refl
