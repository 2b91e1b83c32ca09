-- The parity symbols of the data symbols s (3.2.3.4): p1 = φ⁻¹ (E T⁻¹ A + C) s and p2 = T⁻¹ (A s + B p1), modulo 2, where
-- φ = E T⁻¹ B + D is 1.
-- Assumes nothing.
use Rattle.std.specs.Prelude.{◌≡◌, ◌&&◌, List, [], ◌∷◌, ◌++◌, ℕ, ◌+◌, ◌-◌, ◌%◌, eqb, length}
use Rattle.words.specs.Bits.{IsBits, first_not_bit}
use Rattle.words.specs.Refusal.{left_if, judged, Answer, Done}
use Rattle.tables.specs.Coordinates.{row_sum, added, solved}
use Rattle.tables.specs.Matrix.{Matrix, matrix_of}
use Rattle.tables.specs.Rules.{product_of}
use Rattle.tables.specs.declared.matrix.Subframe.{Subframe}
use Rattle.parity.specs.Equations.{data_of, Meets, is_block}

-- A s
unfoldable pub data_sums : Matrix → List ℕ → List ℕ
data_sums M s = product_of (M.equations - 1) M.a s

-- p1 = (E T⁻¹ A + C) s
unfoldable pub p1_from : Matrix → List ℕ → ℕ
p1_from M s = (row_sum M.c s 1 + row_sum M.e (solved M.t (data_sums M s)) 1) % 2

-- p2 = T⁻¹ (A s + B p1)
unfoldable pub p2_from : Matrix → List ℕ → List ℕ
p2_from M s = solved M.t (added M.b (p1_from M s ∷ []) (data_sums M s))

-- the data symbols, then p1, then p2
unfoldable pub with_parity : Matrix → List ℕ → List ℕ
with_parity M s = s ++ p1_from M s ∷ p2_from M s

-- y is a block of bits whose data symbols are s and that meets every equation
pub record IsCodeword (M : Matrix) (s y : List ℕ) : Type 0 where
  pub long : length y ≡ M.equations + M.equations
  pub bits : IsBits y
  pub starts : data_of M y ≡ s
  pub meets : Meets M y

-- filling a block is refused 1 for another length, then 2 for a data symbol that is no bit; what stands in the places of the parity
-- does not matter
abbrev pub fill_answer : Subframe → List ℕ → Answer
fill_answer s x =
    let d = data_of (matrix_of s) x in
    judged (is_block (matrix_of s) (length x)) (eqb (first_not_bit d) (matrix_of s).equations) (first_not_bit d) Done

-- the bytes then
abbrev pub fill_bytes : Subframe → List ℕ → List ℕ
fill_bytes s x =
    let d = data_of (matrix_of s) x in
    left_if (is_block (matrix_of s) (length x) && eqb (first_not_bit d) (matrix_of s).equations) (with_parity (matrix_of s) d) x
