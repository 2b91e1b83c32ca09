-- Blocks put together from data symbols, p1 and p2, and taken apart; their equations by parts.
-- Assumes nothing.
use Rattle.std.specs.Prelude.{◌≡◌, List, [], ◌∷◌, ◌++◌, ℕ, ◌+◌, ◌-◌, ◌%◌, ◌≤◌, ◌<◌, length, get_or, take, drop}
use Rattle.std.proofs.Common.{sym, ◌∙◌, ap, ⊎_elim, add-one, arith, length-drop, take_all, take_at, drop_at, drop-drop, lt-ltb, le-ltb}
use Rattle.std.proofs.Math.Seq.{split_at}
use Rattle.tables.specs.Coordinates.{row_sum}
use Rattle.tables.specs.Matrix.{Matrix}
use Rattle.tables.specs.Laws.Cases.{before_or_not}
use Rattle.parity.specs.Equations.{data_of, p1_of, p2_of, last_sum, equation_sum, Meets}

-- ---- the sums of the rows, by parts

abbrev pub upper_of : Matrix → List ℕ → List ℕ → List ℕ → ℕ → ℕ
upper_of M s p q r = row_sum M.a s r + row_sum M.b p r + row_sum M.t q r

abbrev pub lower_of : Matrix → List ℕ → List ℕ → List ℕ → ℕ
lower_of M s p q = row_sum M.c s 1 + row_sum M.d p 1 + row_sum M.e q 1

-- a block that was put together, by its parts
module _ (M : Matrix) (s : List ℕ) (p : ℕ) (q : List ℕ) (ls : length s ≡ M.equations) where
  pub data_is : data_of M (s ++ p ∷ q) ≡ s
  data_is = take_at s (p ∷ q) M.equations ls

  p1_is : p1_of M (s ++ p ∷ q) ≡ p ∷ []
  p1_is = ap (take 1) (drop_at s (p ∷ q) M.equations ls)

  p2_is : p2_of M (s ++ p ∷ q) ≡ q
  p2_is = sym (drop-drop 1 M.equations (s ++ p ∷ q)) ∙ ap (drop 1) (drop_at s (p ∷ q) M.equations ls)

  upper_is : (r : ℕ) → r < M.equations → equation_sum M (s ++ p ∷ q) r ≡ upper_of M s (p ∷ []) q r
  unfolding equation_sum
  upper_is r h = rw (lt-ltb r M.equations h, data_is, p1_is, p2_is)

  pub last_is : last_sum M (s ++ p ∷ q) ≡ lower_of M s (p ∷ []) q
  last_is = rw (data_is, p1_is, p2_is)

  lower_is : (r : ℕ) → M.equations ≤ r → equation_sum M (s ++ p ∷ q) r ≡ lower_of M s (p ∷ []) q
  unfolding equation_sum
  lower_is r h = rw (le-ltb r M.equations h) last_is

  -- it meets every equation exactly if its parts do
  pub parts_meet : ((r : ℕ) → 1 ≤ r → r ≤ M.equations - 1 → upper_of M s (p ∷ []) q r % 2 ≡ 0)
      → lower_of M s (p ∷ []) q % 2 ≡ 0 → Meets M (s ++ p ∷ q)
  parts_meet up low =
      record {
        met = λ r lo hi. ⊎_elim
            (λ (h : r < M.equations). omega (arith, upper_is r h, up r lo (omega arith)))
            (λ (h : M.equations ≤ r). omega (arith, lower_is r h, low))
            (before_or_not r M.equations);
      }

  pub upper_met : Meets M (s ++ p ∷ q) → (r : ℕ) → 1 ≤ r → r ≤ M.equations - 1 → upper_of M s (p ∷ []) q r % 2 ≡ 0
  upper_met m r lo hi = omega (arith, upper_is r (omega arith), m.met r lo (omega arith))

  pub lower_met : 1 ≤ M.equations → Meets M (s ++ p ∷ q) → lower_of M s (p ∷ []) q % 2 ≡ 0
  lower_met some m = omega (arith, lower_is M.equations (omega arith), m.met M.equations some (omega arith))

-- a block is its parts, put together
pub put_together : (M : Matrix) (x : List ℕ) → 1 ≤ M.equations → length x ≡ M.equations + M.equations
    → x ≡ data_of M x ++ get_or x M.equations 0 ∷ p2_of M x
put_together M x some lx = split_at x M.equations 0 (omega arith) ∙ rw (← add-one M.equations)

-- ---- the rest of a list as it is lent

pub rest_part : (n : ℕ) (x : List ℕ) → take (length x - n) (drop n x) ≡ drop n x
rest_part n x = take_all (length x - n) (drop n x) (omega (arith, length-drop n x))
