-- THEOREMS: the coordinate tables keep the rules of document 01. Each is one computed test over a whole table, and the law that turns
-- the test into the rule.
-- Assumes nothing.
use Rattle.std.specs.Prelude.{◌≡◌, refl, true, ◌&&◌, ℕ, ◌-◌, ◌≤◌, eqb, length}
use Rattle.std.proofs.Math.Bool.{and-eq-true_iff}
use Rattle.std.proofs.Common.{lit≤, eqb-true}
use Rattle.tables.specs.Coordinates.{coordinates, of_sheets, row_sum, added, solved}
use Rattle.tables.specs.A2.{a2}
use Rattle.tables.specs.T2.{t2}
use Rattle.tables.specs.A3.{a3}
use Rattle.tables.specs.T3.{t3}
use Rattle.tables.specs.Matrix.{matrix_of, submatrix_of}
use Rattle.tables.specs.Rules.{HasOne, times_listed, total_in, HasTotals, row_count, column_count, IsInside, ByColumns, phi, IsProper}
use Rattle.tables.specs.Totals.{total_of, a2_rows, a2_columns, t2_rows, t2_columns, a3_rows, a3_columns, t3_rows, t3_columns}
use Rattle.tables.specs.Laws.Tests.{all_inside, inside_tested, ascending, listed_once, by_columns, columns_tested, kept_ones, totals_are, totals_kept}
use Rattle.tables.specs.Laws.Triangle.{on_diagonal, none_over}
use Rattle.tables.specs.declared.matrix.Subframe.{Subframe}
use Rattle.tables.specs.declared.matrix.Subframe.TheVariants.{Two, Three}
use Rattle.tables.specs.declared.matrix.Submatrix.{Submatrix}
use Rattle.tables.specs.declared.matrix.Submatrix.TheVariants.{A, B, T, C, D, E}

-- how many ones each table lists
abbrev pub count_of : Subframe → Submatrix → ℕ
count_of Two A = 3573
count_of Two B = 14
count_of Two T = 1223
count_of Two C = 5
count_of Two D = 1
count_of Two E = 2
count_of Three A = 1483
count_of Three B = 10
count_of Three T = 571
count_of Three C = 4
count_of Three D = 1
count_of Three E = 2

-- the one computed test of a table's listing
listing_test : (s : Subframe) (x : Submatrix)
    → (let m = submatrix_of (matrix_of s) x in
    eqb (length m) (count_of s x) && (all_inside (row_count (matrix_of s) x) (column_count (matrix_of s) x) m && ascending 0 m)) ≡ true
unfolding a2 t2 a3 t3 of_sheets coordinates all_inside ascending
listing_test Two A = refl
listing_test Two B = refl
listing_test Two T = refl
listing_test Two C = refl
listing_test Two D = refl
listing_test Two E = refl
listing_test Three A = refl
listing_test Three B = refl
listing_test Three T = refl
listing_test Three C = refl
listing_test Three D = refl
listing_test Three E = refl

-- Each table lists that many ones.
pub table_counts : (s : Subframe) (x : Submatrix) → length (submatrix_of (matrix_of s) x) ≡ count_of s x
table_counts s x = eqb-true _ _ ((and-eq-true_iff _ _).0 (listing_test s x)).0

-- Every coordinate is within its submatrix.
pub all_inside_lem : (s : Subframe) (x : Submatrix)
    → IsInside (row_count (matrix_of s) x) (column_count (matrix_of s) x) (submatrix_of (matrix_of s) x)
all_inside_lem s x =
    let m = submatrix_of (matrix_of s) x in
    inside_tested _ _ m ((and-eq-true_iff _ (ascending 0 m)).0 ((and-eq-true_iff (eqb (length m) (count_of s x)) _).0 (listing_test s x)).1).0

-- No coordinate is listed twice.
pub none_twice : (s : Subframe) (x : Submatrix) (i j : ℕ) → times_listed (submatrix_of (matrix_of s) x) i j ≤ 1
none_twice s x i j =
    let m = submatrix_of (matrix_of s) x in
    listed_once 0 m ((and-eq-true_iff (all_inside _ _ m) _).0 ((and-eq-true_iff (eqb (length m) (count_of s x)) _).0 (listing_test s x)).1).1 i j

triangle_test : (s : Subframe) → by_columns ((matrix_of s).equations - 1) 0 (matrix_of s).t ≡ true
unfolding t2 t3 of_sheets coordinates by_columns
triangle_test Two = refl
triangle_test Three = refl

-- T is listed so that forward substitution can follow.
pub t_by_columns : (s : Subframe) → ByColumns ((matrix_of s).equations - 1) 0 (matrix_of s).t
t_by_columns s = columns_tested _ _ _ (triangle_test s)

-- T has ones on its diagonal.
pub t_diagonal : (s : Subframe) (k : ℕ) → 1 ≤ k → k ≤ (matrix_of s).equations - 1 → HasOne k k (matrix_of s).t
t_diagonal s k = on_diagonal _ (t_by_columns s) k

-- T has none above it.
pub t_none_above : (s : Subframe) (i j : ℕ) → HasOne i j (matrix_of s).t → j ≤ i
t_none_above s i j = none_over _ i j (t_by_columns s)

-- The rows and columns of A and T have the totals of Tables 6.2-14 to 6.2-17.
pub table_6_2_14 : HasTotals 599 600 a2 a2_rows a2_columns
unfolding a2 a2_rows a2_columns of_sheets coordinates totals_are kept_ones total_in total_of
table_6_2_14 = totals_kept refl

pub table_6_2_15 : HasTotals 599 599 t2 t2_rows t2_columns
unfolding t2 t2_rows t2_columns of_sheets coordinates totals_are kept_ones total_in total_of
table_6_2_15 = totals_kept refl

pub table_6_2_16 : HasTotals 273 274 a3 a3_rows a3_columns
unfolding a3 a3_rows a3_columns of_sheets coordinates totals_are kept_ones total_in total_of
table_6_2_16 = totals_kept refl

pub table_6_2_17 : HasTotals 273 273 t3 t3_rows t3_columns
unfolding t3 t3_rows t3_columns of_sheets coordinates totals_are kept_ones total_in total_of
table_6_2_17 = totals_kept refl

-- φ is 1.
pub phi_is_one : (s : Subframe) → phi (matrix_of s) ≡ 1
unfolding t2 t3 of_sheets coordinates row_sum added solved phi
phi_is_one Two = refl
phi_is_one Three = refl

-- No subframe has more than 600 equations.
pub at_most_600 : (s : Subframe) → (matrix_of s).equations ≤ 600
at_most_600 Two = lit≤ tt
at_most_600 Three = lit≤ tt

-- Both matrices are proper.
pub proper : (s : Subframe) → IsProper (matrix_of s)
proper s = record { some = some s; within = all_inside_lem s; t_listed = t_by_columns s; phi_one = phi_is_one s }
  where
    some : (s : Subframe) → 1 ≤ (matrix_of s).equations
    some Two = lit≤ tt
    some Three = lit≤ tt
