-- What a test of two lists of counts says.
-- Assumes nothing.
use Rattle.std.specs.Prelude.{◌≡◌, Bool, true, false, List, ◌≢◌, ℤ}

-- true where they are the same, false where they are not
pub record SameCounts (r : Bool) (a b : List ℤ) : Type 0 where
  pub same : r ≡ true → a ≡ b
  pub other : r ≡ false → a ≢ b
