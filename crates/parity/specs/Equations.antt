-- The equations of a subframe (document 01, "Parity"; 3.2.3.4): each row of A B T over C D E is one, and the symbols at its ones add to
-- zero modulo 2.
-- Assumes nothing.
use Rattle.std.specs.Prelude.{◌≡◌, Bool, cond, List, ℕ, zero, suc, ◌+◌, ◌%◌, ◌≤◌, eqb, ltb, length, take, drop}
use Rattle.words.specs.Bits.{first_not_bit}
use Rattle.words.specs.Refusal.{EQUATION_2, EQUATION_3, done_if, judged, Answer}
use Rattle.tables.specs.Coordinates.{row_sum}
use Rattle.tables.specs.Matrix.{Matrix, matrix_of}
use Rattle.tables.specs.declared.matrix.Subframe.{Subframe}
use Rattle.tables.specs.declared.matrix.Subframe.TheVariants.{Two, Three}

-- the parts of a block: the data symbols, then the one symbol p1, then p2
abbrev pub data_of : Matrix → List ℕ → List ℕ
data_of M x = take M.equations x

abbrev pub p1_of : Matrix → List ℕ → List ℕ
p1_of M x = take 1 (drop M.equations x)

abbrev pub p2_of : Matrix → List ℕ → List ℕ
p2_of M x = drop (M.equations + 1) x

-- the sum of the symbols at the ones of row r of A B T, and of the one row of C D E
abbrev pub upper_sum : Matrix → List ℕ → ℕ → ℕ
upper_sum M x r = row_sum M.a (data_of M x) r + row_sum M.b (p1_of M x) r + row_sum M.t (p2_of M x) r

abbrev pub last_sum : Matrix → List ℕ → ℕ
last_sum M x = row_sum M.c (data_of M x) 1 + row_sum M.d (p1_of M x) 1 + row_sum M.e (p2_of M x) 1

-- the sum of equation r, numbered from 1 in row order
unfoldable pub equation_sum : Matrix → List ℕ → ℕ → ℕ
equation_sum M x r = cond (ltb r M.equations) (upper_sum M x r) (last_sum M x)

-- every equation is met
pub record Meets (M : Matrix) (x : List ℕ) : Type 0 where
  pub met : (r : ℕ) → 1 ≤ r → r ≤ M.equations → equation_sum M x r % 2 ≡ 0

-- the first of n numbers, from r on, at which f is odd; 0 where there is none
unfoldable pub first_odd : (ℕ → ℕ) → ℕ → ℕ → ℕ
first_odd f r zero = 0
first_odd f r (suc n) = cond (eqb (f r % 2) 0) (first_odd f (r + 1) n) r

-- the number of the first equation that isn't met; 0 where all are
unfoldable pub first_unmet : Matrix → List ℕ → ℕ
first_unmet M x = first_odd (equation_sum M x) 1 M.equations

-- the number on refusal: 4 for an equation of subframe 2, 7 for one of subframe 3
abbrev pub equation_number : Subframe → ℕ
equation_number Two = EQUATION_2
equation_number Three = EQUATION_3

-- a block has as many parity symbols as data symbols
abbrev pub is_block : Matrix → ℕ → Bool
is_block M count = eqb count (M.equations + M.equations)

-- judging a block: 1, then 2, then the first equation that isn't met
abbrev pub met_answer : Subframe → List ℕ → Answer
met_answer s x =
    judged (is_block (matrix_of s) (length x)) (eqb (first_not_bit x) (length x)) (first_not_bit x)
    (done_if (eqb (first_unmet (matrix_of s) x) 0) (equation_number s) (first_unmet (matrix_of s) x))
