-- Bits and the numbers that they stand for (document 01, "The frame" and "Subframe 2").
-- A bit is one byte, 0 or 1. The first bit is the most significant.
-- Assumes nothing.
use Rattle.std.specs.Prelude.{Bool, cond, ◌&&◌, List, [], ◌∷◌, ℕ, zero, suc, ◌+◌, ◌-◌, ◌*◌, ◌/◌, ◌%◌, ◌^◌, ◌<◌, min, leb, ltb, eqb, ℤ, pos, negsuc, ◌-ℤ◌, length, get_or, take, drop}
use Rattle.std.proofs.lemmas.List.Edits.{sets}
use Rattle.std.specs.Int.Signed.{mag}
use Rattle.words.specs.Refusal.{LENGTH, NOT_A_BIT, done_if, left_if, Answer}

-- every byte is 0 or 1
pub record IsBits (l : List ℕ) : Type 0 where
  pub bit : (k : ℕ) → get_or l k 0 < 2

-- the index of the first byte that is neither 0 nor 1; the length, where there is none
unfoldable pub first_not_bit : List ℕ → ℕ
first_not_bit [] = 0
first_not_bit (b ∷ l) = cond (ltb b 2) (suc (first_not_bit l)) 0

-- judging that all bytes are bits: 2 at the first that is neither 0 nor 1
abbrev pub bits_judged : List ℕ → Answer
bits_judged l = done_if (eqb (first_not_bit l) (length l)) NOT_A_BIT (first_not_bit l)

-- the number that bits stand for, the first the most significant; a byte that is no bit counts as its lowest one
unfoldable pub value_of : List ℕ → ℕ
value_of [] = 0
value_of (b ∷ l) = b % 2 * 2 ^ length l + value_of l

-- the w low bits of n, the most significant first
unfoldable pub bits_of : ℕ → ℕ → List ℕ
bits_of zero n = []
bits_of (suc w) n = n / 2 ^ w % 2 ∷ bits_of w n

-- what bits stand for with a sign: their number, less 2 ^ w when the first bit is one, for w bits
unfoldable pub signed_of : List ℕ → ℤ
signed_of l = cond (eqb (get_or l 0 0 % 2) 1) (pos (value_of l) -ℤ pos (2 ^ length l)) (pos (value_of l))

-- the number of the w bits that stand for z with a sign: z, and 2 ^ w more when z is below zero (negsuc n is -(n + 1))
abbrev pub unsigned_of : ℕ → ℤ → ℕ
unsigned_of w (pos n) = n
unsigned_of w (negsuc n) = 2 ^ w - suc n

-- w bits hold z with a sign: z is from -(2 ^ (w - 1)) to 2 ^ (w - 1) - 1, and w from 1 to 64
abbrev pub holds_signed : ℕ → ℤ → Bool
holds_signed w z = leb 1 w && (leb w 64 && ltb (mag z) (2 ^ (w - 1)))

-- what is taken: w bits from the index `at` on, at most 64, as far as they are there
abbrev pub bits_at : List ℕ → ℕ → ℕ → List ℕ
bits_at l at w = take (min w 64) (drop at l)

-- w bits from the index `at` on lie within the bytes
abbrev pub is_inside : List ℕ → ℕ → ℕ → Bool
is_inside l at w = leb (at + w) (length l)

-- n can be put there: w bits hold it
abbrev pub fits_number : List ℕ → ℕ → ℕ → ℕ → Bool
fits_number l at w n = is_inside l at w && ltb n (2 ^ w)

-- z can be put there: w bits hold it with a sign
abbrev pub fits_signed : List ℕ → ℕ → ℕ → ℤ → Bool
fits_signed l at w z = is_inside l at w && holds_signed w z

-- putting bits from the index `at` on is refused 1 at 0 unless they fit
abbrev pub put_answer : Bool → Answer
put_answer fits = done_if fits LENGTH 0

-- the bytes then: the bits from `at` on, and the others as they were; on a refusal all as they were
abbrev pub put_bytes : Bool → List ℕ → ℕ → List ℕ → List ℕ
put_bytes fits l at bits = left_if fits (sets l at bits) l

-- putting the number n: the answer, and the bytes then
abbrev pub number_answer : List ℕ → ℕ → ℕ → ℕ → Answer
number_answer l at w n = put_answer (fits_number l at w n)

abbrev pub number_bytes : List ℕ → ℕ → ℕ → ℕ → List ℕ
number_bytes l at w n = put_bytes (fits_number l at w n) l at (bits_of w n)

-- putting z with a sign: the answer, and the bytes then
abbrev pub signed_answer : List ℕ → ℕ → ℕ → ℤ → Answer
signed_answer l at w z = put_answer (fits_signed l at w z)

abbrev pub signed_bytes : List ℕ → ℕ → ℕ → ℤ → List ℕ
signed_bytes l at w z = put_bytes (fits_signed l at w z) l at (bits_of w (unsigned_of w z))

-- copying bytes over others is refused 1 at 0 unless both are as many; on a refusal they stay
abbrev pub copy_answer : List ℕ → List ℕ → Answer
copy_answer from into = done_if (eqb (length from) (length into)) LENGTH 0

abbrev pub copy_bytes : List ℕ → List ℕ → List ℕ
copy_bytes from into = left_if (eqb (length from) (length into)) from into
