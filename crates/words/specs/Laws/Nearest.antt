-- The search for the time within nine.
-- Assumes nothing.
use Rattle.std.specs.Prelude.{◌≡◌, refl, Bool, true, false, cond, List, ◌⊎◌, ℕ, zero, suc, ◌+◌, ◌≤◌, ◌<◌, leb}
use Rattle.std.proofs.Common.{sym, ap, ◌∙◌, subst, inl, inr, ⊎_elim, eq-or-lt_of_le, arith, leb-true, leb-false}
use Rattle.words.specs.Sums.{differing}
use Rattle.words.specs.Refusal.{TIME, refused_at}
use Rattle.words.specs.Time.{time_word, time_is, nearest_time, number_read, toi_read, corrected_read}

-- what is found is within nine, with its number of places
pub nearest_found : (n t : ℕ) (s : List ℕ) (u d : ℕ) → nearest_time n t s ≡ time_is u d
    → (u < t + n) × (differing s (time_word u) ≡ d) × (d ≤ 9)
unfolding nearest_time
nearest_found zero t s u d e =
    absurd (let y : 3 ≡ 0 = ap number_read e in omega arith)
nearest_found (suc n) t s u d e = go (leb (differing s (time_word t)) 9) refl e (nearest_found n (suc t) s u d)
  where
    go : (b : Bool) → leb (differing s (time_word t)) 9 ≡ b
        → cond b (time_is t (differing s (time_word t))) (nearest_time n (suc t) s) ≡ time_is u d
        → (nearest_time n (suc t) s ≡ time_is u d → (u < suc t + n) × (differing s (time_word u) ≡ d) × (d ≤ 9))
        → (u < t + suc n) × (differing s (time_word u) ≡ d) × (d ≤ 9)
    go true l e ih =
        let tu : t ≡ u = ap toi_read e in
        let du : differing s (time_word t) ≡ d = ap corrected_read e in
        (omega arith, ap (λ (x : ℕ). differing s (time_word x)) (sym tu) ∙ du, omega (arith, leb-true (differing s (time_word t)) 9 l))
    go false l e ih = let r = ih e in (omega arith, r.1, r.2)

-- a refusal means that none is within nine
pub nearest_none : (n t : ℕ) (s : List ℕ) → nearest_time n t s ≡ refused_at TIME 0 → (u : ℕ) → t ≤ u → u < t + n
    → 9 < differing s (time_word u)
unfolding nearest_time
nearest_none zero t s e u h k = absurd (omega arith)
nearest_none (suc n) t s e u h k = go (leb (differing s (time_word t)) 9) refl e (λ f. nearest_none n (suc t) s f u)
  where
    go : (b : Bool) → leb (differing s (time_word t)) 9 ≡ b
        → cond b (time_is t (differing s (time_word t))) (nearest_time n (suc t) s) ≡ refused_at TIME 0
        → (nearest_time n (suc t) s ≡ refused_at TIME 0 → suc t ≤ u → u < suc t + n → 9 < differing s (time_word u))
        → 9 < differing s (time_word u)
    go true l e ih = absurd (let y : 0 ≡ 3 = ap number_read e in omega arith)
    go false l e ih =
        ⊎_elim
        (λ q. subst (λ (x : ℕ). 9 < differing s (time_word x)) q (leb-false (differing s (time_word t)) 9 l))
        (λ q. ih e q (omega arith))
        (eq-or-lt_of_le h)

-- the only one within nine is found
pub nearest_hit : (n t : ℕ) (s : List ℕ) (u : ℕ) → t ≤ u → u < t + n → differing s (time_word u) ≤ 9
    → ((v : ℕ) → v < t + n → differing s (time_word v) ≤ 9 → v ≡ u)
    → nearest_time n t s ≡ time_is u (differing s (time_word u))
unfolding nearest_time
nearest_hit zero t s u h k near only = absurd (omega arith)
nearest_hit (suc n) t s u h k near only =
    go (leb (differing s (time_word t)) 9) refl (λ g. nearest_hit n (suc t) s u g (omega arith) near (λ v m. only v (omega arith)))
  where
    go : (b : Bool) → leb (differing s (time_word t)) 9 ≡ b
        → (suc t ≤ u → nearest_time n (suc t) s ≡ time_is u (differing s (time_word u)))
        → cond b (time_is t (differing s (time_word t))) (nearest_time n (suc t) s) ≡ time_is u (differing s (time_word u))
    go true l ih =
        ap (λ (x : ℕ). time_is x (differing s (time_word x)))
        (only t (omega arith) (leb-true (differing s (time_word t)) 9 l))
    go false l ih =
        ih (⊎_elim
        (λ q. absurd (omega (arith, leb-false (differing s (time_word t)) 9 l, ap (λ (x : ℕ). differing s (time_word x)) q)))
        (λ q. q)
        (eq-or-lt_of_le h))

-- there is no third way
pub nearest_is : (n t : ℕ) (s : List ℕ)
    → ((u : ℕ) × (d : ℕ) × (nearest_time n t s ≡ time_is u d)) ⊎ (nearest_time n t s ≡ refused_at TIME 0)
unfolding nearest_time
nearest_is zero t s = inr refl
nearest_is (suc n) t s = go (leb (differing s (time_word t)) 9) (nearest_is n (suc t) s)
  where
    go : (b : Bool) → ((u : ℕ) × (d : ℕ) × (nearest_time n (suc t) s ≡ time_is u d)) ⊎ (nearest_time n (suc t) s ≡ refused_at TIME 0)
        → ((u : ℕ) × (d : ℕ) × (cond b (time_is t (differing s (time_word t))) (nearest_time n (suc t) s) ≡ time_is u d))
        ⊎ (cond b (time_is t (differing s (time_word t))) (nearest_time n (suc t) s) ≡ refused_at TIME 0)
    go true rest = inl (t, differing s (time_word t), refl)
    go false rest = rest
