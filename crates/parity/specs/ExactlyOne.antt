-- THEOREMS: given the data symbols, exactly one parity meets every equation; and it adds up. Over any proper matrix; both subframes'
-- matrices are proper (`proper` of tables, specs/Published).
-- Assumes nothing.
use Rattle.std.specs.Prelude.{◌≡◌, List, ◌≢◌, ℕ, ◌-◌, ◌%◌, ◌≤◌, ◌<◌, length}
use Rattle.std.proofs.Common.{sym, ◌∙◌, arith}
use Rattle.words.specs.Bits.{IsBits}
use Rattle.words.specs.Sums.{sums}
use Rattle.words.specs.Laws.Sums.{length_sums, sums_are}
use Rattle.tables.specs.Coordinates.{Coordinate, symbol_at, row_sum, solved}
use Rattle.tables.specs.Matrix.{Matrix}
use Rattle.tables.specs.Rules.{product_of, IsInside, IsProper}
use Rattle.parity.specs.Equations.{equation_sum, Meets, first_unmet}
use Rattle.parity.specs.Fill.{with_parity, IsCodeword}
use Rattle.parity.specs.Laws.Codewords.{product_right, codeword, same_codeword}
use Rattle.parity.specs.Laws.Linear.{codeword_sums}
use Rattle.parity.specs.Laws.Substitution.{solved_right}
use Rattle.parity.specs.Laws.Scan.{Scanned, all_even, first_is, scanned}

-- The product of a matrix and symbols has in each row the sum of the symbols at the row's ones, modulo 2.
pub product_rows : (n c : ℕ) (m : List Coordinate) → IsInside n c m → (s : List ℕ) (r : ℕ) → 1 ≤ r → r ≤ n
    → symbol_at (product_of n m s) r % 2 ≡ row_sum m s r % 2
product_rows n c m inside s r lo hi = product_right n c m inside s r lo hi

-- Forward substitution over T is T⁻¹: T times what it gives is what it was given, row by row, modulo 2.
pub t_inverse : (M : Matrix) → IsProper M → (y : List ℕ) → length y ≡ M.equations - 1 → (r : ℕ) → 1 ≤ r → r ≤ M.equations - 1
    → row_sum M.t (solved M.t y) r % 2 ≡ symbol_at y r % 2
t_inverse M g y ly r lo hi = solved_right (M.equations - 1) g.t_listed y ly r lo hi

-- What is filled is a block of bits that keeps the data symbols and meets every equation.
pub filled_meets : (M : Matrix) → IsProper M → (s : List ℕ) → IsBits s → length s ≡ M.equations → IsCodeword M s (with_parity M s)
filled_meets M g s bits long = codeword M g s bits long

-- Nothing else does: a block of bits with these data symbols that meets every equation is what is filled.
pub only_filled : (M : Matrix) → IsProper M → (s y : List ℕ) → IsBits s → length s ≡ M.equations → IsCodeword M s y
    → y ≡ with_parity M s
only_filled M g s y bits long c = same_codeword M g s y (with_parity M s) c (codeword M g s bits long)

-- So given the data symbols, exactly one parity meets every equation.
pub exactly_one : (M : Matrix) → IsProper M → (s : List ℕ) → IsBits s → length s ≡ M.equations
    → (y : List ℕ) × IsCodeword M s y × ((z : List ℕ) → IsCodeword M s z → z ≡ y)
exactly_one M g s bits long = (with_parity M s, filled_meets M g s bits long, λ z c. only_filled M g s z bits long c)

-- Linearity: the sum modulo 2 of two data blocks is filled to the sum of the two that are filled.
pub parity_linear : (M : Matrix) → IsProper M → (s t : List ℕ) → IsBits s → IsBits t
    → length s ≡ M.equations → length t ≡ M.equations
    → with_parity M (sums s t) ≡ sums (with_parity M s) (with_parity M t)
parity_linear M g s t bs bt ls lt =
    sym (only_filled M g (sums s t) _ (sums_are s t) (length_sums s t (ls ∙ sym lt) ∙ ls)
    (codeword_sums M g s t _ _ (filled_meets M g s bs ls) (filled_meets M g t bt lt)))

-- No equation is reported exactly where all are met.
pub none_unmet : (M : Matrix) (x : List ℕ) → first_unmet M x ≡ 0 → Meets M x
unfolding first_unmet
none_unmet M x e = record { met = λ r lo hi. go (first_unmet M x) e (scanned (equation_sum M x) 1 M.equations) r lo hi }
  where
    go : (v : ℕ) → v ≡ 0 → Scanned (equation_sum M x) 1 M.equations v → (r : ℕ) → 1 ≤ r → r ≤ M.equations → equation_sum M x r % 2 ≡ 0
    go v z (all_even z' g) r lo hi = g r lo (omega arith)
    go v z (first_is a b o g) r lo hi = absurd (omega arith)

pub met_none : (M : Matrix) (x : List ℕ) → Meets M x → first_unmet M x ≡ 0
unfolding first_unmet
met_none M x m = go (first_unmet M x) (scanned (equation_sum M x) 1 M.equations)
  where
    go : (v : ℕ) → Scanned (equation_sum M x) 1 M.equations v → v ≡ 0
    go v (all_even z g) = z
    go v (first_is a b o g) = absurd (o (m.met v a (omega arith)))

-- What is reported is the number, from 1, of an equation that isn't met, and those before it are.
pub first_unmet_is : (M : Matrix) (x : List ℕ) (v : ℕ) → first_unmet M x ≡ v → v ≢ 0
    → (1 ≤ v) × (v ≤ M.equations) × (equation_sum M x v % 2 ≢ 0) × ((r : ℕ) → 1 ≤ r → r < v → equation_sum M x r % 2 ≡ 0)
unfolding first_unmet
first_unmet_is M x v e ne = go (first_unmet M x) e (scanned (equation_sum M x) 1 M.equations)
  where
    go : (w : ℕ) → w ≡ v → Scanned (equation_sum M x) 1 M.equations w
        → (1 ≤ v) × (v ≤ M.equations) × (equation_sum M x v % 2 ≢ 0) × ((r : ℕ) → 1 ≤ r → r < v → equation_sum M x r % 2 ≡ 0)
    go w e (all_even z g) = absurd (ne (sym e ∙ z))
    go w e (first_is a b o g) = rw (← e) (a, omega arith, o, g)
