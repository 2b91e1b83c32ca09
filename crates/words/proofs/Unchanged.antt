-- THEOREMS: a refusal leaves every lent byte as it was, where a number or check bits are put.
-- Assumes nothing.
use Rattle.std.specs.Prelude.{◌≡◌, refl, Bool, true, false, List, ℕ, ◌-◌, leb, ℤ, length, take}
use Rattle.std.proofs.lemmas.List.Edits.{sets}
use Rattle.words.specs.Bits.{bits_of, unsigned_of, fits_number, fits_signed, put_answer, number_answer, number_bytes, signed_answer, signed_bytes}
use Rattle.words.specs.Crc.{block_of, check_answer, check_bytes}
use Rattle.words.specs.Refusal.{left_if}
use Rattle.words.specs.Unchanged.{Refuses}

kept : (fits : Bool) (l new : List ℕ) → Refuses (put_answer fits) → left_if fits new l ≡ l
kept true l new h = absurd (h refl)
kept false l new h = refl

-- Where putting a number is refused, the bytes are as they were.
pub put_number_unchanged : (l : List ℕ) (at w n : ℕ) → Refuses (number_answer l at w n) → number_bytes l at w n ≡ l
put_number_unchanged l at w n h = kept (fits_number l at w n) l (sets l at (bits_of w n)) h

-- Where putting a number with a sign is refused, the bytes are as they were.
pub put_signed_unchanged : (l : List ℕ) (at w : ℕ) (z : ℤ) → Refuses (signed_answer l at w z) → signed_bytes l at w z ≡ l
put_signed_unchanged l at w z h = kept (fits_signed l at w z) l (sets l at (bits_of w (unsigned_of w z))) h

-- Where putting check bits is refused, the bytes are as they were.
pub put_check_unchanged : (l : List ℕ) → Refuses (check_answer l) → check_bytes l ≡ l
put_check_unchanged l h = kept (leb 24 (length l)) l (block_of (take (length l - 24) l)) h
