-- The check bits, CRC-24Q (document 01, "Check bits"; IS-GPS-800, 3.2.3.3).
-- A polynomial over the field of two elements is a number: the digit of 2 ^ k is the coefficient of x^k.
-- Assumes nothing.
use Rattle.std.specs.Prelude.{◌≡◌, List, [], ◌∷◌, ◌++◌, ℕ, ◌+◌, ◌-◌, ◌*◌, ◌/◌, ◌%◌, ◌^◌, leb, length, replicate, take}
use Rattle.std.specs.Int.Bits.{bit_xor}
use Rattle.words.specs.Bits.{IsBits, bits_of, put_answer}
use Rattle.words.specs.Refusal.{left_if, Answer}

-- x^24 + x^23 + x^18 + x^17 + x^14 + x^11 + x^10 + x^7 + x^6 + x^5 + x^4 + x^3 + x + 1
abbrev pub poly : ℕ
poly =
    2 ^ 24 + 2 ^ 23 + 2 ^ 18 + 2 ^ 17 + 2 ^ 14 + 2 ^ 11 + 2 ^ 10 + 2 ^ 7 + 2 ^ 6 + 2 ^ 5 + 2 ^ 4 + 2 ^ 3 + 2 + 1

-- where x^24 has the coefficient 1, the polynomial is taken away
unfoldable pub reduced : ℕ → ℕ
reduced s = bit_xor s (s / 2 ^ 24 % 2 * poly)

-- one more bit behind the register
unfoldable pub fed : ℕ → ℕ → ℕ
unfolding reduced
fed r b = reduced (r * 2 + b % 2)

-- the remainder of the bits behind the register r, high first
abbrev pub remainder_from : ℕ → List ℕ → ℕ
remainder_from r [] = r
remainder_from r (b ∷ l) = remainder_from (fed r b) l

-- the remainder of the bits; the start value is zero
abbrev pub remainder_of : List ℕ → ℕ
remainder_of l = remainder_from 0 l

-- the check bits, as a number: the remainder of the bits times x^24
unfoldable pub check_of : List ℕ → ℕ
check_of l = remainder_of (l ++ replicate 24 0)

-- the data, and then their check bits, high bit first
unfoldable pub block_of : List ℕ → List ℕ
block_of d = d ++ bits_of 24 (check_of d)

-- a block of data and check bits is right
abbrev pub Right : List ℕ → Type 0
Right l = remainder_of l ≡ 0

-- putting check bits into a block's last 24 places: refused 1 at 0 for a block of fewer, which stays as it was
abbrev pub check_answer : List ℕ → Answer
check_answer l = put_answer (leb 24 (length l))

abbrev pub check_bytes : List ℕ → List ℕ
check_bytes l = left_if (leb 24 (length l)) (block_of (take (length l - 24) l)) l

-- two blocks of one length, of bits, both right
pub record BothRight (a b : List ℕ) : Type 0 where
  pub one_length : length a ≡ length b
  pub bits_a : IsBits a
  pub bits_b : IsBits b
  pub right_a : Right a
  pub right_b : Right b
