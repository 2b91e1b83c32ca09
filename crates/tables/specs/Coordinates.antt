-- Matrices of zeros and ones as IS-GPS-800 prints them (6.2.4): the coordinates "R , C" of their ones, row and column counted from 1.
-- Assumes nothing.
use Rattle.std.specs.Prelude.{cond, List, [], ◌∷◌, ◌++◌, ℕ, ◌+◌, ◌-◌, eqb, get_or, set}
use Rattle.std.specs.Int.Bits.{bit_xor}

-- a one of a matrix: its row and its column
pub data Coordinate : Type 0 where
  rc : ℕ → ℕ → Coordinate

-- the ones that a table prints: row, column, row, column
unfoldable pub coordinates : List ℕ → List Coordinate
coordinates [] = []
coordinates (i ∷ []) = []
coordinates (i ∷ j ∷ t) = rc i j ∷ coordinates t

-- ones that are given by their row and column
unfoldable pub ones : List (ℕ × ℕ) → List Coordinate
ones [] = []
ones (one ∷ t) = rc one.0 one.1 ∷ ones t

-- the ones of sheets, one after another
unfoldable pub of_sheets : List (List ℕ) → List Coordinate
of_sheets [] = []
of_sheets (t ∷ ts) = coordinates t ++ of_sheets ts

-- symbol number k, counted from 1
abbrev pub symbol_at : List ℕ → ℕ → ℕ
symbol_at s k = get_or s (k - 1) 0

-- the sum of the symbols of s at the ones of row r
unfoldable pub row_sum : List Coordinate → List ℕ → ℕ → ℕ
row_sum [] s r = 0
row_sum (rc i j ∷ m) s r = cond (eqb i r) (symbol_at s j) 0 + row_sum m s r

-- symbol number k with v added modulo 2
abbrev pub added_at : List ℕ → ℕ → ℕ → List ℕ
added_at s k v = set s (k - 1) (bit_xor (symbol_at s k) v)

-- for each one of the matrix, the symbol of s at its column added modulo 2 to the sum of its row
unfoldable pub added : List Coordinate → List ℕ → List ℕ → List ℕ
added [] s acc = acc
added (rc i j ∷ m) s acc = added m s (added_at acc i (symbol_at s j))

-- one step of forward substitution, at a one of row i and column j: below the diagonal, the unknown of its column, known by then, is
-- added modulo 2 to that of its row; on the diagonal nothing is left to add
abbrev pub substituted : List ℕ → ℕ → ℕ → List ℕ
substituted y i j = cond (eqb i j) y (added_at y i (symbol_at y j))

-- T⁻¹ y, for a T with ones on its diagonal and none above, whose ones are listed column by column
unfoldable pub solved : List Coordinate → List ℕ → List ℕ
solved [] y = y
solved (rc i j ∷ m) y = solved m (substituted y i j)
