-- The rules that the coordinate tables keep (document 01, "Parity").
-- Assumes nothing.
use Rattle.std.specs.Prelude.{◌≡◌, cond, ◌&&◌, List, [], ◌∷◌, ℕ, ◌+◌, ◌-◌, ◌%◌, ◌≤◌, ◌<◌, eqb, replicate}
use Rattle.tables.specs.Coordinates.{Coordinate, rc, row_sum, added, solved}
use Rattle.tables.specs.Matrix.{Matrix, submatrix_of}
use Rattle.tables.specs.declared.matrix.Submatrix.{Submatrix}
use Rattle.tables.specs.declared.matrix.Submatrix.TheVariants.{A, B, T, C, D, E}

-- the matrix has a one in row i and column j
pub data HasOne (i j : ℕ) : List Coordinate → Type 0 where
  at_first : {i' j' : ℕ} {m : List Coordinate} → i ≡ i' → j ≡ j' → HasOne i j (rc i' j' ∷ m)
  at_later : {o : Coordinate} {m : List Coordinate} → HasOne i j m → HasOne i j (o ∷ m)

-- how often a coordinate is listed
unfoldable pub times_listed : List Coordinate → ℕ → ℕ → ℕ
times_listed [] i j = 0
times_listed (rc i' j' ∷ m) i j = cond (eqb i' i && eqb j' j) 1 0 + times_listed m i j

-- the row and the column of a one
abbrev pub its_row : Coordinate → ℕ
its_row (rc i j) = i

abbrev pub its_column : Coordinate → ℕ
its_column (rc i j) = j

-- how many ones are in row k, or in column k
unfoldable pub total_in : (Coordinate → ℕ) → List Coordinate → ℕ → ℕ
total_in row_or_column [] k = 0
total_in row_or_column (o ∷ m) k = cond (eqb (row_or_column o) k) 1 0 + total_in row_or_column m k

-- n rows and c columns have the totals that are listed for them
pub record HasTotals (n c : ℕ) (m : List Coordinate) (rows columns : ℕ → ℕ) : Type 0 where
  pub in_row : (r : ℕ) → 1 ≤ r → r ≤ n → total_in its_row m r ≡ rows r
  pub in_column : (k : ℕ) → 1 ≤ k → k ≤ c → total_in its_column m k ≡ columns k

-- the rows and columns of a submatrix (3.2.3.4, Figure 3.2-5)
abbrev pub row_count : Matrix → Submatrix → ℕ
row_count M A = M.equations - 1
row_count M B = M.equations - 1
row_count M T = M.equations - 1
row_count M C = 1
row_count M D = 1
row_count M E = 1

abbrev pub column_count : Matrix → Submatrix → ℕ
column_count M A = M.equations
column_count M B = 1
column_count M T = M.equations - 1
column_count M C = M.equations
column_count M D = 1
column_count M E = M.equations - 1

-- every coordinate is within n rows and c columns
pub record IsInside (n c : ℕ) (m : List Coordinate) : Type 0 where
  pub inside : (i j : ℕ) → HasOne i j m → (1 ≤ i) × (i ≤ n) × (1 ≤ j) × (j ≤ c)

-- T of n rows, listed so that forward substitution can follow, d rows being done: the next one is that of the next row on the diagonal,
-- or it lies in a column that is done, below the rows that are; at the end all rows are done
pub data ByColumns (n : ℕ) : ℕ → List Coordinate → Type 0 where
  finished : {d : ℕ} → d ≡ n → ByColumns n d []
  next_diagonal : {d i j : ℕ} {m : List Coordinate} → i ≡ d + 1 → j ≡ d + 1 → ByColumns n (d + 1) m → ByColumns n d (rc i j ∷ m)
  beneath : {d i j : ℕ} {m : List Coordinate} → 1 ≤ j → j ≤ d → d < i → i ≤ n → ByColumns n d m → ByColumns n d (rc i j ∷ m)

-- the product modulo 2 of a matrix of n rows and a column of symbols
abbrev pub product_of : ℕ → List Coordinate → List ℕ → List ℕ
product_of n m s = added m s (replicate n 0)

-- φ = E T⁻¹ B + D, modulo 2 (3.2.3.4)
unfoldable pub phi : Matrix → ℕ
phi M = (row_sum M.e (solved M.t (product_of (M.equations - 1) M.b (1 ∷ []))) 1 + row_sum M.d (1 ∷ []) 1) % 2

-- what every law of the equations asks of a matrix
pub record IsProper (M : Matrix) : Type 0 where
  pub some : 1 ≤ M.equations
  pub within : (x : Submatrix) → IsInside (row_count M x) (column_count M x) (submatrix_of M x)
  pub t_listed : ByColumns (M.equations - 1) 0 M.t
  pub phi_one : phi M ≡ 1
