-- Computed tests of a coordinate table, and the rule that each gives.
-- Assumes nothing.
use Rattle.std.specs.Prelude.{◌≡◌, refl, Bool, true, false, cond, ◌&&◌, List, [], ◌∷◌, ℕ, zero, suc, ◌+◌, ◌*◌, ◌^◌, ◌≤◌, ◌<◌, eqb, leb, ltb}
use Rattle.std.proofs.Common.{sym, ◌∙◌, ap, subst, ⊎_elim, pow-suc, arith, eqb-true, leb-true, ltb-true, lt-ltb, le-leb}
use Rattle.std.proofs.Math.Bool.{and-eq-true_iff}
use Rattle.std.proofs.lemmas.Bool.{false≢true}
use Rattle.tables.specs.Coordinates.{Coordinate, rc}
use Rattle.tables.specs.Rules.{HasOne, at_first, at_later, times_listed, its_row, its_column, total_in, HasTotals, IsInside, ByColumns, finished, next_diagonal, beneath}
use Rattle.tables.specs.Laws.Cases.{before_or_not}

-- ---- every coordinate is within n rows and c columns

unfoldable pub all_inside : ℕ → ℕ → List Coordinate → Bool
all_inside n c [] = true
all_inside n c (rc i j ∷ m) = leb 1 i && (leb i n && (leb 1 j && (leb j c && all_inside n c m)))

both : (a b : Bool) → (a && b) ≡ true → (a ≡ true) × (b ≡ true)
both a b h = (and-eq-true_iff a b).0 h

inside_at : (n c : ℕ) (m : List Coordinate) → all_inside n c m ≡ true → (i j : ℕ) → HasOne i j m
    → (1 ≤ i) × (i ≤ n) × (1 ≤ j) × (j ≤ c)
unfolding all_inside
inside_at n c [] h i j x'' = elim x'' [ ]
inside_at n c (rc i' j' ∷ m) h i j (at_first a b) =
    let h₁ = both (leb 1 i') _ h in
    let h₂ = both (leb i' n) _ h₁.1 in
    let h₃ = both (leb 1 j') _ h₂.1 in
    let h₄ = both (leb j' c) _ h₃.1 in
    rw (a, b) (leb-true 1 i' h₁.0, leb-true i' n h₂.0, leb-true 1 j' h₃.0, leb-true j' c h₄.0)
inside_at n c (rc i' j' ∷ m) h i j (at_later o) =
    let h₁ = both (leb 1 i') _ h in
    let h₂ = both (leb i' n) _ h₁.1 in
    let h₃ = both (leb 1 j') _ h₂.1 in
    inside_at n c m (both (leb j' c) _ h₃.1).1 i j o

pub inside_tested : (n c : ℕ) (m : List Coordinate) → all_inside n c m ≡ true → IsInside n c m
inside_tested n c m h = record { inside = inside_at n c m h }

-- ---- no coordinate is listed twice: they are listed by column, and then by row, each after the one before

unfoldable pub ascending : ℕ → List Coordinate → Bool
ascending before [] = true
ascending before (rc i j ∷ m) = ltb before (1024 * j + i) && ascending (1024 * j + i) m

-- what comes no later than the one before is not listed
not_listed : (before : ℕ) (m : List Coordinate) → ascending before m ≡ true → (i j : ℕ) → 1024 * j + i ≤ before
    → times_listed m i j ≡ 0
unfolding ascending times_listed
not_listed before [] h i j le = refl
not_listed before (rc i' j' ∷ m) h i j le =
    let later = ltb-true before (1024 * j' + i') (both _ _ h).0 in
    other (eqb i' i) (eqb j' j) refl refl later
    (not_listed (1024 * j' + i') m (both (ltb before (1024 * j' + i')) _ h).1 i j (omega arith))
  where
    other : (s t : Bool) → eqb i' i ≡ s → eqb j' j ≡ t → before < 1024 * j' + i' → times_listed m i j ≡ 0
        → cond (s && t) 1 0 + times_listed m i j ≡ 0
    other true true e f lt rest = absurd (omega (arith, eqb-true i' i e, eqb-true j' j f))
    other true false e f lt rest = omega arith
    other false t e f lt rest = omega arith

pub listed_once : (before : ℕ) (m : List Coordinate) → ascending before m ≡ true → (i j : ℕ) → times_listed m i j ≤ 1
unfolding ascending times_listed
listed_once before [] h i j = omega arith
listed_once before (rc i' j' ∷ m) h i j =
    let after = (both (ltb before (1024 * j' + i')) _ h).1 in
    count (eqb i' i) (eqb j' j) refl refl (not_listed (1024 * j' + i') m after i j) (listed_once (1024 * j' + i') m after i j)
  where
    count : (s t : Bool) → eqb i' i ≡ s → eqb j' j ≡ t → (1024 * j + i ≤ 1024 * j' + i' → times_listed m i j ≡ 0)
        → times_listed m i j ≤ 1 → cond (s && t) 1 0 + times_listed m i j ≤ 1
    count true true e f none rest = omega (arith, none (omega (arith, eqb-true i' i e, eqb-true j' j f)))
    count true false e f none rest = omega arith
    count false t e f none rest = omega arith

-- ---- T is listed so that forward substitution can follow

unfoldable pub by_columns : ℕ → ℕ → List Coordinate → Bool
by_columns n d [] = eqb d n
by_columns n d (rc i j ∷ m) =
    cond (eqb i j) (eqb i (d + 1) && by_columns n i m) (leb 1 j && (leb j d && (ltb d i && (leb i n && by_columns n d m))))

pub columns_tested : (n d : ℕ) (m : List Coordinate) → by_columns n d m ≡ true → ByColumns n d m
unfolding by_columns
columns_tested n d [] h = finished (eqb-true d n h)
columns_tested n d (rc i j ∷ m) h = go (eqb i j) refl h (columns_tested n i m) (columns_tested n d m)
  where
    go : (t : Bool) → eqb i j ≡ t
        → cond t (eqb i (d + 1) && by_columns n i m) (leb 1 j && (leb j d && (ltb d i && (leb i n && by_columns n d m)))) ≡ true
        → (by_columns n i m ≡ true → ByColumns n i m) → (by_columns n d m ≡ true → ByColumns n d m) → ByColumns n d (rc i j ∷ m)
    go true e h f g =
        let h₁ = both (eqb i (d + 1)) _ h in
        let ei : i ≡ d + 1 = eqb-true i (d + 1) h₁.0 in
        next_diagonal ei (sym (eqb-true i j e) ∙ ei) (subst (λ (v : ℕ). ByColumns n v m) ei (f h₁.1))
    go false e h f g =
        let h₁ = both (leb 1 j) _ h in
        let h₂ = both (leb j d) _ h₁.1 in
        let h₃ = both (ltb d i) _ h₂.1 in
        let h₄ = both (leb i n) _ h₃.1 in
        beneath (leb-true 1 j h₁.0) (leb-true j d h₂.0) (ltb-true d i h₃.0) (leb-true i n h₄.0) (g h₄.1)

-- ---- the ones of each row or column, counted by halves: those before the middle, and those from it on

unfoldable pub kept_ones : (Coordinate → Bool) → List Coordinate → List Coordinate
kept_ones test [] = []
kept_ones test (o ∷ m) = cond (test o) (o ∷ kept_ones test m) (kept_ones test m)

unfoldable pub totals_are : (Coordinate → ℕ) → (ℕ → ℕ) → ℕ → ℕ → ℕ → List Coordinate → Bool
totals_are key total n zero from m = cond (leb 1 from && leb from n) (eqb (total_in key m from) (total from)) true
totals_are key total n (suc halvings) from m =
    totals_are key total n halvings from (kept_ones (λ o. ltb (key o) (from + 2 ^ halvings)) m)
    && totals_are key total n halvings (from + 2 ^ halvings) (kept_ones (λ o. leb (from + 2 ^ halvings) (key o)) m)

kept_ones_lem : (key : Coordinate → ℕ) (test : Coordinate → Bool) (k : ℕ) → ((o : Coordinate) → key o ≡ k → test o ≡ true)
    → (m : List Coordinate) → total_in key (kept_ones test m) k ≡ total_in key m k
unfolding kept_ones total_in
kept_ones_lem key test k h [] = refl
kept_ones_lem key test k h (o ∷ m) = one (eqb (key o) k) (test o) refl refl (kept_ones_lem key test k h m)
  where
    one : (s t : Bool) → eqb (key o) k ≡ s → test o ≡ t → total_in key (kept_ones test m) k ≡ total_in key m k
        → total_in key (cond t (o ∷ kept_ones test m) (kept_ones test m)) k ≡ cond s 1 0 + total_in key m k
    one s true e f rest = omega (arith, ap (λ (b : Bool). cond {A = ℕ} b 1 0) e)
    one true false e f rest = absurd (false≢true (sym f ∙ h o (eqb-true (key o) k e)))
    one false false e f rest = omega arith

totals_tested : (key : Coordinate → ℕ) (total : ℕ → ℕ) (n halvings from : ℕ) (m : List Coordinate)
    → totals_are key total n halvings from m ≡ true
    → (k : ℕ) → from ≤ k → k < from + 2 ^ halvings → 1 ≤ k → k ≤ n → total_in key m k ≡ total k
unfolding totals_are
totals_tested key total n zero from m h k lo hi one most =
    let e : k ≡ from = omega arith in
    rw e (eqb-true (total_in key m from) (total from) (rw (le-leb 1 from (omega arith), le-leb from n (omega arith)) at h))
totals_tested key total n (suc halvings) from m h k lo hi one most =
    ⊎_elim
    (λ (lt : k < from + 2 ^ halvings). sym (kept_ones_lem key _ k (λ o e. lt-ltb (key o) (from + 2 ^ halvings) (omega arith)) m)
    ∙ totals_tested key total n halvings from _ (both (totals_are key total n halvings from _) _ h).0 k lo lt one most)
    (λ (ge : from + 2 ^ halvings ≤ k). sym (kept_ones_lem key _ k (λ o e. le-leb (from + 2 ^ halvings) (key o) (omega arith)) m)
    ∙ totals_tested key total n halvings (from + 2 ^ halvings) _ (both (totals_are key total n halvings from _) _ h).1 k ge (omega (arith, pow-suc 2 halvings)) one most)
    (before_or_not k (from + 2 ^ halvings))

-- of a matrix with fewer than 1024 rows and columns
pub totals_kept : {n c : ℕ} {m : List Coordinate} {rows columns : ℕ → ℕ}
    → (totals_are its_row rows n 10 0 m && totals_are its_column columns c 10 0 m && (ltb n 1024 && ltb c 1024)) ≡ true
    → HasTotals n c m rows columns
totals_kept {n} {c} {m} {rows} {columns} h =
    let h₁ = both (totals_are its_row rows n 10 0 m && totals_are its_column columns c 10 0 m) _ h in
    let h₂ = both (totals_are its_row rows n 10 0 m) _ h₁.0 in
    let h₃ = both (ltb n 1024) _ h₁.1 in
    let n_lt = ltb-true n 1024 h₃.0 in
    let c_lt = ltb-true c 1024 h₃.1 in
    record {
      in_row = λ r one most. totals_tested its_row rows n 10 0 m h₂.0 r (omega arith) (omega arith) one most;
      in_column = λ k one most. totals_tested its_column columns c 10 0 m h₂.1 k (omega arith) (omega arith) one most;
    }
