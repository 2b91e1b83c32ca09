-- The trailer (document 01, "The sheet"): 11 bytes, `back `, five digits, byte 10. The digits count the bytes from the sheet's first byte
-- to the `b`, at most 4096.
-- Assumes nothing.
use Rattle.std.specs.Prelude.{Bool, cond, ◌&&◌, List, [], ◌∷◌, ◌++◌, ℕ, ◌+◌, ◌-◌, ◌/◌, ◌%◌, eqb, leb, length, get_or, take, drop}
use Rattle.sheets.specs.Text.{LINE_END, bytes_in, same_bytes}
use Rattle.sheets.specs.Number.{all_digits, decimal_in}

-- a trailer has 11 bytes
abbrev pub TRAILER_BYTES : ℕ
TRAILER_BYTES = 11

-- and counts at most 4096
abbrev pub MOST_BYTES : ℕ
MOST_BYTES = 4096

-- how many bytes stand before the last 11
abbrev pub trailer_place : List ℕ → ℕ
trailer_place s = length s - TRAILER_BYTES

-- its five digits
abbrev pub digits_in : List ℕ → List ℕ
digits_in trailer = take 5 (drop 5 trailer)

-- eleven bytes are a trailer
unfoldable pub is_trailer : List ℕ → Bool
is_trailer trailer =
    same_bytes (take 5 trailer) (bytes_in "back ") && (all_digits (digits_in trailer) && eqb (get_or trailer 10 0) LINE_END)

-- what the digits at the end of s count
unfoldable pub trailer_count : List ℕ → ℕ
trailer_count s = decimal_in (digits_in (drop (trailer_place s) s))

-- s ends with a trailer that is not over 4096 and does not point before s
unfoldable pub has_trailer : List ℕ → Bool
has_trailer s =
    leb TRAILER_BYTES (length s)
    && (is_trailer (drop (trailer_place s) s) && (leb (trailer_count s) MOST_BYTES && leb (trailer_count s) (trailer_place s)))

-- where the sheet at the end of s begins; the length of s, where there is no trailer
unfoldable pub start_of : List ℕ → ℕ
start_of s = cond (has_trailer s) (trailer_place s - trailer_count s) (length s)

-- the bytes of its lines
unfoldable pub lines_bytes : List ℕ → List ℕ
lines_bytes s = take (trailer_place s - start_of s) (drop (start_of s) s)

-- the trailer after n bytes, as it is written
unfoldable pub trailer_text : ℕ → List ℕ
trailer_text n =
    bytes_in "back "
    ++ ((48 + n / 10000 % 10) ∷ (48 + n / 1000 % 10) ∷ (48 + n / 100 % 10) ∷ (48 + n / 10 % 10) ∷ (48 + n % 10) ∷ LINE_END ∷ [])
