-- Numbers of a sheet (document 01, "The sheet"): decimal counts, `-` only before a nonzero number, no plus, no leading zero, no space.
-- Assumes nothing.
use Rattle.std.specs.Prelude.{Bool, true, false, cond, not, ◌&&◌, ◌||◌, List, [], ◌∷◌, ◌++◌, ℕ, zero, suc, ◌+◌, ◌-◌, ◌*◌, ◌/◌, ◌%◌, eqb, leb, ltb, ℤ, pos, negsuc, neg_ℤ, length, get_or, drop}
use Rattle.fields.specs.Counts.{in_range}
use Rattle.fields.specs.declared.table.Field.{Field}

-- the byte `-`
abbrev pub MINUS : ℕ
MINUS = 45

-- `0` to `9`
abbrev pub is_digit : ℕ → Bool
is_digit b = leb 48 b && leb b 57

-- each byte is a digit
unfoldable pub all_digits : List ℕ → Bool
all_digits [] = true
all_digits (b ∷ l) = is_digit b && all_digits l

-- the number that digits stand for, after others that stand for acc
unfoldable pub decimal_from : ℕ → List ℕ → ℕ
decimal_from acc [] = acc
decimal_from acc (b ∷ l) = decimal_from (acc * 10 + (b - 48)) l

-- the number that digits stand for
abbrev pub decimal_in : List ℕ → ℕ
decimal_in l = decimal_from 0 l

-- a number without a sign: digits, at least one, and no leading zero unless it is the only one
unfoldable pub is_plain : List ℕ → Bool
is_plain l = ltb 0 (length l) && ((not (eqb (get_or l 0 0) 48) || eqb (length l) 1) && all_digits l)

-- a number: `-` only before one that is not zero
unfoldable pub is_number : List ℕ → Bool
is_number l = cond (eqb (get_or l 0 0) MINUS) (is_plain (drop 1 l) && not (eqb (decimal_in (drop 1 l)) 0)) (is_plain l)

-- and what it stands for
unfoldable pub value_in : List ℕ → ℤ
value_in l = cond (eqb (get_or l 0 0) MINUS) (neg_ℤ (pos (decimal_in (drop 1 l)))) (pos (decimal_in l))

-- a number in the field's range
abbrev pub is_number_of : Field → List ℕ → Bool
is_number_of f l = is_number l && in_range f (value_in l)

-- the digits of n, at most `most` of them
unfoldable pub decimal_by : ℕ → ℕ → List ℕ
decimal_by zero n = []
decimal_by (suc most) n =
    elim (ltb n 10) [
      | true ↦ (48 + n) ∷ []
      | false ↦ decimal_by most (n / 10) ++ (48 + n % 10) ∷ []
    ]

-- a number without a sign, as it is written
unfoldable pub decimal : ℕ → List ℕ
decimal n = decimal_by (suc n) n

-- a number, as it is written
unfoldable pub numeral : ℤ → List ℕ
numeral (pos n) = decimal n
numeral (negsuc n) = MINUS ∷ decimal (suc n)
