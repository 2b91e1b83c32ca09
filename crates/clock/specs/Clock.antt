-- The clock terms (document 01, "Subframe 2"; IS-GPS-800, Table 3.5-1): af0 times 2^-35, af1 times 2^-48 and af2 times 2^-60 as one record
-- of three 64-bit floating numbers, and taken back to counts.
-- Assumes nothing.
use Rattle.std.specs.Prelude.{◌≡◌, ℕ, ◌*◌, ◌/◌, ◌%◌, ◌^◌, Bool, true, false, cond, not, ◌&&◌, ℤ, pos, negsuc, neg_ℤ, ◌==◌, slice_index_or, unsigned_abs, Float, Option, None, Some, Result}
use Rattle.std.specs.Float.{nan, inf, fin, binary64}
use Rattle.std.specs.Float.Ieee.{up, down, round}
use Rattle.std.specs.Float.Ieee.Exact.{HasValue}
use Rattle.words.specs.Refusal.{FIELD_2, Answer, given_by, done_if, in_turn, number_of, place_of}
use Rattle.words.specs.declared.refusal.Refusal.{Refusal}
use Rattle.fields.specs.Table.{twos, fields_in, no_field, first_bit}
use Rattle.fields.specs.Counts.{in_range}
use Rattle.fields.specs.declared.table.Field.{Field}
use Rattle.fields.specs.declared.table.Table.TheVariants.{Subframe2}
use Rattle.clock.specs.declared.clock.Clock.{Clock}
use Rattle.clock.specs.declared.clock.ClockCounts.{ClockCounts}

-- ---- one count and one floating number, in steps of 2^-k

-- the count is below zero
abbrev pub negative : ℤ → Bool
negative (pos n) = false
negative (negsuc n) = true

-- x is z times 2^-k exactly; a zero is plus zero, since 0 is not below zero
abbrev pub Exactly : ℕ → ℤ → Float → Type 0
Exactly k z x = HasValue x (negative z) (unsigned_abs z) (2 ^ k)

-- the 64-bit floating number nearest to z times 2^-k; for a count of a clock term it is that product, and no other is
unfoldable pub term_of : ℕ → ℤ → Float
term_of k z = round binary64 (negative z) (unsigned_abs z) (2 ^ k)

-- q with a sign
abbrev pub with_sign : Bool → ℕ → ℤ
with_sign false q = pos q
with_sign true q = neg_ℤ (pos q)

-- q steps and a part r of one, with a sign: their count, if there is no part, it is not minus zero, and it is in the field's range
abbrev pub whole_in : Field → Bool → ℕ → ℕ → Option ℤ
whole_in f s r q = cond (r == 0 && (not (s && q == 0) && in_range f (with_sign s q))) (Some (with_sign s q)) None

-- the count in the field's range whose product with 2^-k this is: m * 2^e, in steps of 2^-k; what is not finite is none
unfoldable pub count_in : ℕ → Field → Float → Option ℤ
count_in k f nan = None
count_in k f (inf s) = None
count_in k f (fin s m e) = whole_in f s (m * up e * 2 ^ k % down e) (m * up e * 2 ^ k / down e)

-- a two's complement field of w bits, for its range alone
abbrev pub signed_field : ℕ → Field
signed_field w = (twos w "").field

-- ---- the three clock terms

-- the row of af0 in the table of subframe 2, from 0
abbrev pub AF0 : ℕ
AF0 = 26

-- the row of af1
abbrev pub AF1 : ℕ
AF1 = 27

-- the row of af2
abbrev pub AF2 : ℕ
AF2 = 28

-- the step of af0 is 2^-35 (Table 3.5-1)
abbrev pub STEP0 : ℕ
STEP0 = 35

-- the step of af1 is 2^-48
abbrev pub STEP1 : ℕ
STEP1 = 48

-- the step of af2 is 2^-60
abbrev pub STEP2 : ℕ
STEP2 = 60

-- a row's field
abbrev pub clock_field : ℕ → Field
clock_field row = slice_index_or (fields_in Subframe2) row no_field

-- done where the test holds, and else refused 6 at the row's first bit
abbrev pub done_if_at : Bool → ℕ → Answer
done_if_at test row = done_if test FIELD_2 (first_bit Subframe2 row)

-- three tests, one for each term: refused 6 at the first bit of the first whose test does not hold
abbrev pub clock_answer : Bool → Bool → Bool → Answer
clock_answer s t u = in_turn (done_if_at s AF0) (in_turn (done_if_at t AF1) (done_if_at u AF2))

-- refused 6 at this bit, as a fact
pub record Refused6 (answer : Answer) (place : ℕ) : Type 0 where
  pub number_is : number_of answer ≡ FIELD_2
  pub place_is : place_of answer ≡ place

-- ---- handing counts out

-- plus zero
abbrev pub plus_zero : Float
plus_zero = fin false 0 (pos 0)

-- the terms of three counts
abbrev pub clock_terms : ℤ → ℤ → ℤ → Clock
clock_terms a b c = record { af0 = term_of STEP0 a; af1 = term_of STEP1 b; af2 = term_of STEP2 c }

-- a count is in the range of a row's field
abbrev pub is_count_of : ℕ → ℤ → Bool
is_count_of row z = in_range (clock_field row) z

-- the clock terms of three counts; refused 6 at the first bit of the first field whose width a count is not in
abbrev pub clock_taken : ℤ → ℤ → ℤ → Result Clock Refusal
clock_taken a b c = given_by (clock_answer (is_count_of AF0 a) (is_count_of AF1 b) (is_count_of AF2 c)) (clock_terms a b c)

-- ---- taking counts back

-- there is a count
abbrev pub is_count : Option ℤ → Bool
is_count (Some z) = true
is_count None = false

-- which; 0 where there is none
abbrev pub the_count : Option ℤ → ℤ
the_count (Some z) = z
the_count None = pos 0

-- the counts of what three terms are taken back to; refused 6 at the first bit of the first that is no count
abbrev pub counts_of_three : Option ℤ → Option ℤ → Option ℤ → Result ClockCounts Refusal
counts_of_three s t u =
    given_by (clock_answer (is_count s) (is_count t) (is_count u)) (record { af0 = the_count s; af1 = the_count t; af2 = the_count u })

-- the counts whose clock terms these are; refused 6 at the first bit of the first field none of whose counts has the term given
abbrev pub clock_counts : Clock → Result ClockCounts Refusal
clock_counts clock =
    counts_of_three (count_in STEP0 (clock_field AF0) clock.af0) (count_in STEP1 (clock_field AF1) clock.af1)
    (count_in STEP2 (clock_field AF2) clock.af2)
