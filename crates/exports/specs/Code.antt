-- What a call returns (include/l1c.h): in the high 32 bits the refusal's number, 0 where nothing is refused; in the low 32 bits the refusal's
-- place, or what the call says.
-- Assumes nothing.
use Rattle.std.specs.Prelude.{◌≡◌, ℕ, ◌+◌, ◌*◌, ◌/◌, ◌%◌, Err, Ok}
use Rattle.words.specs.Refusal.{number_of, Answer, Done}

-- 2^32: what one stands for in the high 32 bits
abbrev pub HALF : ℕ
HALF = 4294967296

-- a refusal's number and place
abbrev pub refusal_code : ℕ → ℕ → ℕ
refusal_code number place = number * HALF + place % HALF

-- an answer, and what is said where nothing is refused
abbrev pub code_of : Answer → ℕ → ℕ
code_of (Ok _) said = said
code_of (Err r) said = refusal_code r.number r.place

-- what the low 32 bits are for: the place of a refusal, or what is said
abbrev pub low_of : Answer → ℕ → ℕ
low_of (Ok _) said = said
low_of (Err r) said = r.place

-- what is returned reports an answer: the high half is its number, which is 0 only where nothing is refused, and the low half its place, or
-- what is said
pub record Reports (code : ℕ) (a : Answer) (said : ℕ) : Type 0 where
  pub number : code / HALF ≡ number_of a
  pub none : code / HALF ≡ 0 → a ≡ Done
  pub low : code % HALF ≡ low_of a said
