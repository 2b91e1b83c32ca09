-- The parity-check matrix of a subframe: A B T over C D E (3.2.3.4, Figure 3.2-5).
-- Assumes nothing.
use Rattle.std.specs.Prelude.{List, ℕ}
use Rattle.tables.specs.Coordinates.{Coordinate}
use Rattle.tables.specs.A2.{a2}
use Rattle.tables.specs.T2.{t2}
use Rattle.tables.specs.Bcde2.{b2, c2, d2, e2}
use Rattle.tables.specs.A3.{a3}
use Rattle.tables.specs.T3.{t3}
use Rattle.tables.specs.Bcde3.{b3, c3, d3, e3}
use Rattle.tables.specs.declared.matrix.Subframe.{Subframe}
use Rattle.tables.specs.declared.matrix.Subframe.TheVariants.{Two, Three}
use Rattle.tables.specs.declared.matrix.Submatrix.{Submatrix}
use Rattle.tables.specs.declared.matrix.Submatrix.TheVariants.{A, B, T, C, D, E}

-- as many equations as data symbols; A, B and T have a row for each equation but the last, C, D and E are the row of the last
pub record Matrix : Type 0 where
  pub equations : ℕ
  pub a : List Coordinate
  pub b : List Coordinate
  pub t : List Coordinate
  pub c : List Coordinate
  pub d : List Coordinate
  pub e : List Coordinate

-- a submatrix by its letter
abbrev pub submatrix_of : Matrix → Submatrix → List Coordinate
submatrix_of M A = M.a
submatrix_of M B = M.b
submatrix_of M T = M.t
submatrix_of M C = M.c
submatrix_of M D = M.d
submatrix_of M E = M.e

-- subframe 2: Tables 6.2-2 to 6.2-7
abbrev pub subframe2 : Matrix
subframe2 = record { equations = 600; a = a2; b = b2; t = t2; c = c2; d = d2; e = e2 }

-- subframe 3: Tables 6.2-8 to 6.2-13
abbrev pub subframe3 : Matrix
subframe3 = record { equations = 274; a = a3; b = b3; t = t3; c = c3; d = d3; e = e3 }

-- the matrix of a subframe
abbrev pub matrix_of : Subframe → Matrix
matrix_of Two = subframe2
matrix_of Three = subframe3
