-- What the proofs of `fill` use.
-- Assumes nothing.
use Rattle.std.proofs.Common.{◌≡◌, List, [], ◌∷◌, ◌++◌, ℕ, ◌%◌, length, set, refl, ap₂, ◌∙◌, arith}
use Rattle.tables.specs.Coordinates.{added, solved}
use Rattle.tables.specs.Matrix.{Matrix}
use Rattle.parity.specs.Equations.{last_sum}
use Rattle.parity.specs.Fill.{data_sums, p1_from, p2_from, with_parity}
use Rattle.parity.specs.Laws.Parts.{last_is}
use Rattle.parity.specs.Laws.Codewords.{zero_adds_nothing}

-- one symbol, set
pub set_one : (l : List ℕ) (v : ℕ) → length l ≡ 1 → set l 0 v ≡ v ∷ []
set_one [] v e = absurd (omega arith)
set_one (x ∷ []) v e = refl
set_one (x ∷ y ∷ l) v e = absurd (omega arith)

-- with a p1 of 0, the sum of the last equation is p1
pub p1_found : (M : Matrix) (s sums : List ℕ) → length s ≡ M.equations → sums ≡ data_sums M s
    → last_sum M (s ++ 0 ∷ solved M.t sums) % 2 ≡ p1_from M s
unfolding p1_from
p1_found M s sums ls e = rw e (omega (arith, last_is M s 0 (solved M.t (data_sums M s)) ls, zero_adds_nothing M.d 1))

pub parity_put : (M : Matrix) (s sums : List ℕ) (p : ℕ) → length s ≡ M.equations → sums ≡ data_sums M s
    → p ≡ last_sum M (s ++ 0 ∷ solved M.t sums) % 2
    → s ++ p ∷ solved M.t (added M.b (p ∷ []) sums) ≡ with_parity M s
unfolding with_parity p2_from
parity_put M s sums p ls e f =
    ap₂ (λ (k : ℕ) (l : List ℕ). s ++ k ∷ solved M.t (added M.b (k ∷ []) l)) (f ∙ p1_found M s sums ls e) e
