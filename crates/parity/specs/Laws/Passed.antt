-- What the passes over a block leave in its sums: those of its equations, modulo 2.
-- Assumes nothing.
use Rattle.std.specs.Prelude.{◌≡◌, Option, Some, None, cond, eqb, length, get_or, set, take, replicate}
use Rattle.std.proofs.Common.{◌∙◌, arith, length-set, get_or-set_same, get_or-set_other, lt-ltb, le-ltb}
use Rattle.std.proofs.Math.Path.{ap}
use mathlib.Core.List.{List, [], ◌∷◌}
use Rattle.std.proofs.Math.Logic.{⊎_elim}
use Prim.Native.Nat.{ℕ, ◌+◌, ◌-◌, ◌%◌, ◌≤◌, ◌<◌}
use Rattle.std.proofs.lemmas.List.{length-replicate, take-replicate}
use Rattle.tables.specs.Coordinates.{row_sum, added, symbol_at}
use Rattle.tables.specs.Matrix.{Matrix, matrix_of, submatrix_of}
use Rattle.tables.specs.Rules.{IsInside, IsProper}
use Rattle.tables.specs.Laws.Passes.{length_added}
use Rattle.tables.specs.Laws.Cases.{before_or_not}
use Rattle.tables.specs.declared.matrix.Subframe.{Subframe}
use Rattle.tables.specs.declared.matrix.Subframe.TheVariants.{Two, Three}
use Rattle.tables.specs.declared.matrix.Submatrix.{Submatrix}
use Rattle.tables.specs.declared.matrix.Submatrix.TheVariants.{A, B, T, C, D, E}
use Rattle.parity.specs.Equations.{data_of, p1_of, p2_of, last_sum, equation_sum, first_odd, first_unmet}
use Rattle.parity.specs.Laws.Rows.{added_right}
use Rattle.parity.specs.Laws.Scan.{scan_same}
use Rattle.parity.specs.Laws.Zeros.{zero_at}

-- a number that counts from 1, where 0 says that there is none
abbrev pub if_any : ℕ → Option ℕ
if_any n = cond (eqb n 0) None (Some n)

-- three submatrices that stand side by side, added over the parts of a block
unfoldable pub side_by_side : Matrix → Submatrix → Submatrix → Submatrix → List ℕ → List ℕ → List ℕ
side_by_side M left middle right x acc =
    added (submatrix_of M right) (p2_of M x) (added (submatrix_of M middle) (p1_of M x) (added (submatrix_of M left) (data_of M x) acc))

-- sums that start from zero, as many as a subframe has equations at most: the room for them has 600
pub zero_sums : (s : Subframe) (n : ℕ) → n ≤ (matrix_of s).equations → take n (replicate 600 0) ≡ replicate {A = ℕ} n 0
zero_sums Two n h = take-replicate n 600 0 (omega arith)
zero_sums Three n h = take-replicate n 600 0 (omega arith)

-- the sums of all equations: those of A B T, and then that of C D E
abbrev equation_sums : Matrix → List ℕ → List ℕ
equation_sums M x = set (side_by_side M A B T x (replicate M.equations 0)) (M.equations - 1) (last_sum M x % 2)

pub length_side : (M : Matrix) (left middle right : Submatrix) (x acc : List ℕ) → length (side_by_side M left middle right x acc) ≡ length acc
unfolding side_by_side
length_side M left middle right x acc =
    length_added (submatrix_of M right) _ _ ∙ length_added (submatrix_of M middle) _ _ ∙ length_added (submatrix_of M left) _ _

-- each sum is that of its row, modulo 2
side_right : (M : Matrix) (left middle right : Submatrix) (n c c' c'' : ℕ) → IsInside n c (submatrix_of M left)
    → IsInside n c' (submatrix_of M middle) → IsInside n c'' (submatrix_of M right) → (x acc : List ℕ) → n ≤ length acc
    → (r : ℕ) → 1 ≤ r → r ≤ n
    → symbol_at (side_by_side M left middle right x acc) r % 2
    ≡ (symbol_at acc r + row_sum (submatrix_of M left) (data_of M x) r + row_sum (submatrix_of M middle) (p1_of M x) r
    + row_sum (submatrix_of M right) (p2_of M x) r) % 2
unfolding side_by_side
side_right M left middle right n c c' c'' w w' w'' x acc la r lo hi =
    let one = added (submatrix_of M left) (data_of M x) acc in
    let two = added (submatrix_of M middle) (p1_of M x) one in
    let l_one : length one ≡ length acc = length_added (submatrix_of M left) (data_of M x) acc in
    let l_two : length two ≡ length acc = length_added (submatrix_of M middle) (p1_of M x) one ∙ l_one in
    omega (
      arith,
      added_right n c (submatrix_of M left) w (data_of M x) acc la r lo hi,
      added_right n c' (submatrix_of M middle) w' (p1_of M x) one (omega arith) r lo hi,
      added_right n c'' (submatrix_of M right) w'' (p2_of M x) two (omega arith) r lo hi,
    )

module _ (M : Matrix) (g : IsProper M) (x : List ℕ) where
  -- the one sum that the submatrices C D E have
  pub last_right : symbol_at (side_by_side M C D E x (0 ∷ [])) 1 % 2 ≡ last_sum M x % 2
  last_right =
      side_right M C D E 1 _ _ _ (g.within C) (g.within D) (g.within E) x (0 ∷ []) (omega arith) 1 (omega arith) (omega arith)
      ∙ ap (λ (k : ℕ). k % 2) (omega arith)

  length_upper : length (side_by_side M A B T x (replicate M.equations 0)) ≡ M.equations
  length_upper = length_side M A B T x _ ∙ length-replicate M.equations 0

  sum_at : (r : ℕ) → 1 ≤ r → r ≤ M.equations → symbol_at (equation_sums M x) r % 2 ≡ equation_sum M x r % 2
  unfolding equation_sum
  sum_at r lo hi = ⊎_elim above last (before_or_not r M.equations)
    where
      upper : List ℕ
      upper = side_by_side M A B T x (replicate M.equations 0)

      above : r < M.equations → symbol_at (equation_sums M x) r % 2 ≡ equation_sum M x r % 2
      above h =
          rw (lt-ltb r M.equations h)
          (omega (
            arith,
            get_or-set_other upper (M.equations - 1) (r - 1) (last_sum M x % 2) 0 (omega arith),
            side_right M A B T (M.equations - 1) _ _ _ (g.within A) (g.within B) (g.within T) x (replicate M.equations 0)
                (omega (arith, length-replicate {A = ℕ} M.equations 0)) r lo (omega arith),
            zero_at M.equations (r - 1),
          ))

      last : M.equations ≤ r → symbol_at (equation_sums M x) r % 2 ≡ equation_sum M x r % 2
      last h =
          let at : r - 1 ≡ M.equations - 1 = omega arith in
          rw (le-ltb r M.equations h)
          (omega (
            arith,
            ap (λ (k : ℕ). get_or (equation_sums M x) k 0) at,
            get_or-set_same upper (M.equations - 1) (last_sum M x % 2) 0 (omega (arith, length_upper)),
          ))

  -- the first odd one of the sums is the first equation that isn't met
  pub first_odd_sum : first_odd (symbol_at (equation_sums M x)) 1 (length (equation_sums M x)) ≡ first_unmet M x
  unfolding first_unmet
  first_odd_sum =
      ap (first_odd (symbol_at (equation_sums M x)) 1) (length-set (side_by_side M A B T x (replicate M.equations 0)) _ _ ∙ length_upper)
      ∙ scan_same _ (equation_sum M x) 1 M.equations (λ k lo hi. sum_at k lo (omega arith))
