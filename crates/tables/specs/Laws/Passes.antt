-- A pass keeps the length of what it adds to.
-- Assumes nothing.
use Rattle.std.specs.Prelude.{◌≡◌, refl, Bool, true, false, cond, List, [], ◌∷◌, ℕ, eqb, length}
use Rattle.std.proofs.Common.{◌∙◌, length-set}
use Rattle.tables.specs.Coordinates.{Coordinate, rc, symbol_at, added_at, added, substituted, solved}

pub length_substituted : (y : List ℕ) (i j : ℕ) → length (substituted y i j) ≡ length y
length_substituted y i j = go (eqb i j)
  where
    go : (t : Bool) → length (cond t y (added_at y i (symbol_at y j))) ≡ length y
    go true = refl
    go false = length-set y _ _

pub length_added : (m : List Coordinate) (s acc : List ℕ) → length (added m s acc) ≡ length acc
unfolding added
length_added [] s acc = refl
length_added (rc i j ∷ m) s acc = length_added m s _ ∙ length-set acc _ _

pub length_solved : (m : List Coordinate) (y : List ℕ) → length (solved m y) ≡ length y
unfolding solved
length_solved [] y = refl
length_solved (rc i j ∷ m) y = length_solved m _ ∙ length_substituted y i j
