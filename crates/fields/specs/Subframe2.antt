-- The record of subframe 2 (document 01, "Subframe 2"; IS-GPS-800, Table 3.5-1): 33 counts, and the 576 bits that stand for them.
-- Assumes nothing.
use Rattle.std.specs.Prelude.{Bool, ◌&&◌, List, [], ◌∷◌, ◌++◌, ℕ, eqb, ℤ, pos, length, Result}
use Rattle.words.specs.Bits.{first_not_bit}
use Rattle.words.specs.Refusal.{Answer, LENGTH, FIELD_2, done_if, in_turn, judged, left_if, given_by}
use Rattle.fields.specs.Table.{at_most, fields_in}
use Rattle.fields.specs.Counts.{counts_in, bits_of_counts, first_out, out_answer}
use Rattle.fields.specs.declared.table.Field.{Field}
use Rattle.fields.specs.declared.table.Table.TheVariants.{Subframe2}
use Rattle.words.specs.declared.refusal.Refusal.{Refusal}

-- bits 567 to 576 are reserved and must be zero: a field whose only count is 0
abbrev pub reserved : Field
reserved = (at_most 10 0 "reserved").field

-- the fields of the 576 bits: the 33 of the table, and the reserved bits
unfoldable pub fields2 : List Field
fields2 = fields_in Subframe2 ++ reserved ∷ []

-- subframe 2 before its check bits: bits 1 to 576
abbrev pub BITS_2 : ℕ
BITS_2 = 576

-- a record has 33 counts
abbrev pub COUNTS_2 : ℕ
COUNTS_2 = 33

-- the bits of 33 counts; the reserved bits are zero
abbrev pub bits2 : List ℤ → List ℕ
bits2 zs = bits_of_counts fields2 (zs ++ pos 0 ∷ [])

-- the first bit of the first field out of range, 567 where only reserved bits are set, 0 where nothing is wrong
abbrev pub first_out2 : List ℕ → ℕ
first_out2 l = first_out 0 fields2 (counts_in fields2 l)

-- judging 576 bits: 6 at that bit
abbrev pub fields_answer : List ℕ → Answer
fields_answer l = out_answer FIELD_2 0 fields2 (counts_in fields2 l)

-- reading 576 bits: refused 1, 2, then 6
abbrev pub fields_read : List ℕ → Result (List ℤ) Refusal
fields_read l =
    given_by (judged (eqb (length l) BITS_2) (eqb (first_not_bit l) (length l)) (first_not_bit l) (fields_answer l))
    (counts_in (fields_in Subframe2) l)

-- the counts and the bits that they are written into are as many as they must be
abbrev pub right_lengths2 : List ℤ → List ℕ → Bool
right_lengths2 zs out = eqb (length zs) COUNTS_2 && eqb (length out) BITS_2

-- judging counts: 6 at the first bit of the first field out of range
abbrev pub counts_answer : List ℤ → Answer
counts_answer zs = out_answer FIELD_2 0 (fields_in Subframe2) zs

-- judging 33 counts: refused 1, then 6
abbrev pub counts_judged : List ℤ → Answer
counts_judged zs = in_turn (done_if (eqb (length zs) COUNTS_2) LENGTH 0) (counts_answer zs)

-- writing 33 counts into 576 bytes: refused 1, then 6
abbrev pub fields_written : List ℤ → List ℕ → Answer
fields_written zs out = in_turn (done_if (right_lengths2 zs out) LENGTH 0) (counts_answer zs)

-- the bytes then: the bits of the counts; on a refusal they stay
abbrev pub fields_bytes : List ℤ → List ℕ → List ℕ
fields_bytes zs out = left_if (right_lengths2 zs out && eqb (first_out 0 (fields_in Subframe2) zs) 0) (bits2 zs) out
