-- The scan for the first odd sum.
-- Assumes nothing.
use Rattle.std.specs.Prelude.{◌≡◌, refl, Bool, true, false, cond, List, ◌≢◌, ℕ, zero, suc, ◌+◌, ◌-◌, ◌%◌, ◌≤◌, ◌<◌, eqb, length, get_or}
use Rattle.std.proofs.Common.{ap, ◌∙◌, ⊎_elim, arith, eqb-true}
use Rattle.std.proofs.lemmas.Bool.{eqb-false}
use Rattle.tables.specs.Coordinates.{symbol_at}
use Rattle.tables.specs.Laws.Cases.{same_or_not, before_or_not}
use Rattle.parity.specs.Equations.{first_odd}

-- ---- what the scan finds

-- two scans of what is odd at the same places
pub scan_same : (f g : ℕ → ℕ) (r n : ℕ) → ((k : ℕ) → r ≤ k → k < r + n → f k % 2 ≡ g k % 2) → first_odd f r n ≡ first_odd g r n
unfolding first_odd
scan_same f g r zero h = refl
scan_same f g r (suc n) h =
    rw (h r (omega arith) (omega arith))
    (ap (λ (v : ℕ). cond (eqb (g r % 2) 0) v r) (scan_same f g (r + 1) n (λ k lo hi. h k (omega arith) (omega arith))))

-- nothing, where all are even; or the first that is odd
pub data Scanned (f : ℕ → ℕ) (r n v : ℕ) : Type 0 where
  all_even : v ≡ 0 → ((k : ℕ) → r ≤ k → k < r + n → f k % 2 ≡ 0) → Scanned f r n v
  first_is : r ≤ v → v < r + n → f v % 2 ≢ 0 → ((k : ℕ) → r ≤ k → k < v → f k % 2 ≡ 0) → Scanned f r n v

pub scanned : (f : ℕ → ℕ) (r n : ℕ) → Scanned f r n (first_odd f r n)
unfolding first_odd
scanned f r zero = all_even refl (λ k lo hi. absurd (omega arith))
scanned f r (suc n) = go (eqb (f r % 2) 0) refl (scanned f (r + 1) n)
  where
    more : f r % 2 ≡ 0 → (v : ℕ) → ((k : ℕ) → r + 1 ≤ k → k < v → f k % 2 ≡ 0) → (k : ℕ) → r ≤ k → k < v → f k % 2 ≡ 0
    more e v g k lo hi = ⊎_elim (λ (s : k ≡ r). rw s e) (λ (ne : k ≢ r). g k (omega arith) hi) (same_or_not k r)

    next : f r % 2 ≡ 0 → (v : ℕ) → Scanned f (r + 1) n v → Scanned f r (suc n) v
    next e v (all_even z g) = all_even z (λ k lo hi. more e (r + suc n) (λ k lo hi. g k lo (omega arith)) k lo hi)
    next e v (first_is lo hi o g) = first_is (omega arith) (omega arith) o (more e v g)

    go : (b : Bool) → eqb (f r % 2) 0 ≡ b → Scanned f (r + 1) n (first_odd f (r + 1) n)
        → Scanned f r (suc n) (cond b (first_odd f (r + 1) n) r)
    go true e s = next (eqb-true (f r % 2) 0 e) (first_odd f (r + 1) n) s
    go false e s = first_is (omega arith) (omega arith) (eqb-false (f r % 2) 0 e) (λ k lo hi. absurd (omega arith))

-- ---- a list of sums, counted from 0

even_at : (sums : List ℕ) (e : ℕ) → ((k : ℕ) → k < e → get_or sums k 0 % 2 ≡ 0) → (r : ℕ) → 1 ≤ r → r ≤ e → symbol_at sums r % 2 ≡ 0
even_at sums e h r lo hi = h (r - 1) (omega arith)

pub scan_none : (sums : List ℕ) → ((k : ℕ) → k < length sums → get_or sums k 0 % 2 ≡ 0)
    → first_odd (symbol_at sums) 1 (length sums) ≡ 0
scan_none sums h = go _ (scanned (symbol_at sums) 1 (length sums))
  where
    go : (v : ℕ) → Scanned (symbol_at sums) 1 (length sums) v → v ≡ 0
    go v (all_even z even) = z
    go v (first_is lo hi odd even) = absurd (odd (even_at sums (length sums) h v lo (omega arith)))

pub scan_first : (sums : List ℕ) (k : ℕ) → k < length sums → get_or sums k 0 % 2 ≢ 0
    → ((i : ℕ) → i < k → get_or sums i 0 % 2 ≡ 0) → first_odd (symbol_at sums) 1 (length sums) ≡ k + 1
scan_first sums k h odd_here before = go _ (scanned (symbol_at sums) 1 (length sums))
  where
    odd_now : symbol_at sums (k + 1) % 2 ≡ 0 → ⊥
    odd_now e = odd_here (ap (λ (i : ℕ). get_or sums i 0 % 2) (let i : k ≡ k + 1 - 1 = omega arith in i) ∙ e)

    go : (v : ℕ) → Scanned (symbol_at sums) 1 (length sums) v → v ≡ k + 1
    go v (all_even z even) = absurd (odd_now (even (k + 1) (omega arith) (omega arith)))
    go v (first_is lo hi odd even) =
        ⊎_elim (λ (lt : v < k + 1). absurd (odd (even_at sums k before v lo (omega arith))))
        (λ (ge : k + 1 ≤ v).
        ⊎_elim (λ (gt : k + 1 < v). absurd (odd_now (even (k + 1) (omega arith) gt))) (λ (le : v ≤ k + 1). omega arith)
        (before_or_not (k + 1) v)) (before_or_not v (k + 1))
