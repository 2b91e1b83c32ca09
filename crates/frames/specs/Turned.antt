-- Symbols turned over (document 01, demand 3): a flag for each of the 1800 symbols, 1 where it is turned.
-- Assumes nothing.
use Rattle.std.specs.Prelude.{◌≡◌, List, ℕ, ◌+◌, ◌%◌, ◌≤◌, ◌<◌, length, get_or}
use Rattle.words.specs.Bits.{IsBits}
use Rattle.words.specs.Sums.{sums, weight}
use Rattle.tables.specs.declared.matrix.Subframe.{Subframe}
use Rattle.frames.specs.Frame.{FRAME, subframe_in}

-- the flags of a frame
pub record FrameFlags (t : List ℕ) : Type 0 where
  pub long : length t ≡ FRAME
  pub bits : IsBits t

-- the frame with those symbols turned: the sum modulo 2, place by place
abbrev pub turned : List ℕ → List ℕ → List ℕ
turned f t = sums f t

-- some symbol of the subframe turns: in its order before interleaving, the one at `place`
pub record SomeTurned (s : Subframe) (t : List ℕ) : Type 0 where
  pub place : ℕ
  pub flag : get_or (subframe_in s t) place 0 ≡ 1

-- what demand 3 names, of the flags of a subframe's data symbols in their order before interleaving: none, two, an odd number, or all
-- among the 24 places from some place on
pub data NamedDamage (flags : List ℕ) : Type 0 where
  none : weight flags ≡ 0 → NamedDamage flags
  two : weight flags ≡ 2 → NamedDamage flags
  odd : weight flags % 2 ≡ 1 → NamedDamage flags
  near : (from : ℕ) → ((k : ℕ) → get_or flags k 0 ≡ 1 → (from ≤ k) × (k < from + 24)) → NamedDamage flags
