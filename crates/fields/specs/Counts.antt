-- Counts and the bits that stand for them, field by field (document 01, "Subframe 2").
-- Assumes nothing.
use Rattle.std.specs.Prelude.{◌≡◌, Bool, true, false, cond, ◌&&◌, ◌||◌, List, [], ◌∷◌, ◌++◌, ℕ, ◌+◌, ◌<◌, eqb, leb, ℤ, pos, length, get_or, take, drop}
use Rattle.std.specs.Int.Signed.{mag, non_neg}
use Rattle.words.specs.Bits.{value_of, bits_of, signed_of, unsigned_of}
use Rattle.words.specs.Refusal.{done_if, Answer}
use Rattle.fields.specs.Table.{no_field, bit_count}
use Rattle.fields.specs.declared.table.Field.{Field}

-- the count that a field's bits stand for: their number, with a sign or without
abbrev pub count_of : Field → List ℕ → ℤ
count_of f bits = cond f.signed (signed_of bits) (pos (value_of bits))

-- the counts that bits stand for, field by field
unfoldable pub counts_in : List Field → List ℕ → List ℤ
counts_in [] bits = []
counts_in (f ∷ fs) bits = count_of f (take f.width bits) ∷ counts_in fs (drop f.width bits)

-- the bits of a count
abbrev pub bits_for : Field → ℤ → List ℕ
bits_for f z = bits_of f.width (unsigned_of f.width z)

-- the bits of counts, field by field
unfoldable pub bits_of_counts : List Field → List ℤ → List ℕ
bits_of_counts [] zs = []
bits_of_counts (f ∷ fs) [] = []
bits_of_counts (f ∷ fs) (z ∷ zs) = bits_for f z ++ bits_of_counts fs zs

-- a count is in the field's range: from `least` to `most`, or with a sign from -(most + 1); the number n or -(n + 1) has the size n
abbrev pub in_range : Field → ℤ → Bool
in_range f z = (f.signed || non_neg z) && (leb f.least (mag z) && leb (mag z) f.most)

-- there is a count for each field, and each is in its field's range
pub record AllInRange (fs : List Field) (zs : List ℤ) : Type 0 where
  pub as_many : length zs ≡ length fs
  pub each : (k : ℕ) → k < length fs → in_range (get_or fs k no_field) (get_or zs k (pos 0)) ≡ true

-- the first bit, from 1, of the first field whose count is out of range, 0 where there is none; `at` bits stand before these fields
unfoldable pub first_out : ℕ → List Field → List ℤ → ℕ
first_out at [] zs = 0
first_out at (f ∷ fs) [] = at + 1
first_out at (f ∷ fs) (z ∷ zs) = cond (in_range f z) (first_out (at + f.width) fs zs) (at + 1)

-- judging counts: refused `number` at that bit
abbrev pub out_answer : ℕ → ℕ → List Field → List ℤ → Answer
out_answer number at fs zs = done_if (eqb (first_out at fs zs) 0) number (first_out at fs zs)

-- p is the first bit, from 1, of the first field whose count is out of range or missing: that of the field `index`, and the counts of
-- all fields before it are in range
pub record FirstOutAt (at : ℕ) (fs : List Field) (zs : List ℤ) (p : ℕ) : Type 0 where
  pub index : ℕ
  pub inside : index < length fs
  pub place : p ≡ at + bit_count (take index fs) + 1
  pub out : index < length zs → in_range (get_or fs index no_field) (get_or zs index (pos 0)) ≡ false
  pub before : (k : ℕ) → k < index → (k < length zs) × (in_range (get_or fs k no_field) (get_or zs k (pos 0)) ≡ true)
