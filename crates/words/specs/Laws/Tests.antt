-- Tests that are computed: one for every entry of a table, with its rule; tests that say the same; tests of two parts.
-- Assumes nothing.
use Rattle.std.specs.Prelude.{◌≡◌, refl, Bool, true, false, ◌&&◌, ℕ, zero, suc, ◌<◌}
use Rattle.std.proofs.Common.{sym, ap, ◌∙◌, subst, ⊎_elim, eq-or-lt_of_le, le_of_suc-le-suc, arith}
use Rattle.std.proofs.Math.Bool.{and-eq-true_iff}

-- the test holds of every number below n
unfoldable pub all_below : (ℕ → Bool) → ℕ → Bool
all_below test zero = true
all_below test (suc n) = test n && all_below test n

pub below_at : (test : ℕ → Bool) (n : ℕ) → all_below test n ≡ true → (k : ℕ) → k < n → test k ≡ true
unfolding all_below
below_at test zero p k h = absurd (omega arith)
below_at test (suc n) p k h =
    let both = (and-eq-true_iff (test n) (all_below test n)).0 p in
    ⊎_elim
    (λ e. subst (λ (m : ℕ). test m ≡ true) (sym e) both.0)
    (λ l. below_at test n both.1 k l)
    (eq-or-lt_of_le (le_of_suc-le-suc h))

-- two tests that say the same are equal
pub same_test : (s t : Bool) → (s ≡ true → t ≡ true) → (t ≡ true → s ≡ true) → s ≡ t
same_test true t f g = sym (f refl)
same_test false true f g = g refl
same_test false false f g = refl

-- a test of two parts goes on with the second where the first holds, and ends where it does not
pub and_goes_on : (s t r : Bool) → s ≡ true → r ≡ t → r ≡ (s && t)
and_goes_on s t r e f = f ∙ ap (λ (x : Bool). x && t) (sym e)

pub and_ends : (s t : Bool) → s ≡ false → false ≡ (s && t)
and_ends s t e = ap (λ (x : Bool). x && t) (sym e)
