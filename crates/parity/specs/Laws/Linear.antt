-- The sum of two codewords is a codeword.
-- Assumes nothing.
use Rattle.std.specs.Prelude.{◌≡◌, refl, List, [], ◌∷◌, ◌++◌, ℕ, ◌+◌, ◌%◌, length}
use Rattle.std.proofs.Common.{sym, ◌∙◌, ap, ap₂, subst, arith}
use Rattle.words.specs.Sums.{add2, sums}
use Rattle.words.specs.Laws.Sums.{length_sums, sums_at, sums_are, sums_append}
use Rattle.tables.specs.Coordinates.{Coordinate, row_sum}
use Rattle.tables.specs.Matrix.{Matrix}
use Rattle.tables.specs.Rules.{IsProper}
use Rattle.parity.specs.Equations.{data_of, p2_of, Meets}
use Rattle.parity.specs.Fill.{IsCodeword}
use Rattle.parity.specs.Laws.Rows.{sum_linear}
use Rattle.parity.specs.Laws.Parts.{data_is, parts_meet, upper_met, lower_met}
use Rattle.parity.specs.Laws.Codewords.{p1_at, apart, parts_long}

sum_sums : (m : List Coordinate) (a b : List ℕ) → length a ≡ length b → (r : ℕ)
    → row_sum m (sums a b) r % 2 ≡ (row_sum m a r + row_sum m b r) % 2
sum_sums m a b e r = sum_linear m (sums a b) a b r (λ k. omega (arith, sums_at a b e k))

-- sums that add up, each modulo 2
two : (x y x₁ y₁ x₂ y₂ : ℕ) → x % 2 ≡ (x₁ + x₂) % 2 → y % 2 ≡ (y₁ + y₂) % 2 → (x + y) % 2 ≡ (x₁ + y₁ + (x₂ + y₂)) % 2
two x y x₁ y₁ x₂ y₂ ex ey = omega arith

add_up : (x y z x₁ y₁ z₁ x₂ y₂ z₂ : ℕ) → x % 2 ≡ (x₁ + x₂) % 2 → y % 2 ≡ (y₁ + y₂) % 2 → z % 2 ≡ (z₁ + z₂) % 2
    → (x₁ + y₁ + z₁) % 2 ≡ 0 → (x₂ + y₂ + z₂) % 2 ≡ 0 → (x + y + z) % 2 ≡ 0
add_up x y z x₁ y₁ z₁ x₂ y₂ z₂ ex ey ez e₁ e₂ =
    two (x + y) z (x₁ + y₁) z₁ (x₂ + y₂) z₂ (two x y x₁ y₁ x₂ y₂ ex ey) ez ∙ even (x₁ + y₁ + z₁) (x₂ + y₂ + z₂) e₁ e₂
  where
    even : (a b : ℕ) → a % 2 ≡ 0 → b % 2 ≡ 0 → (a + b) % 2 ≡ 0
    even a b e f = omega arith

-- blocks that meet every equation, added part by part
meets_sums : (M : Matrix) → IsProper M → (s t : List ℕ) (p p' : ℕ) (q q' : List ℕ) → length s ≡ M.equations → length t ≡ M.equations
    → length q ≡ length q' → Meets M (s ++ p ∷ q) → Meets M (t ++ p' ∷ q') → Meets M (sums s t ++ add2 p p' ∷ sums q q')
meets_sums M g s t p p' q q' ls lt lq mx my =
    parts_meet M (sums s t) (add2 p p') (sums q q') (length_sums s t (ls ∙ sym lt) ∙ ls)
    (λ r lo hi. add_up _ _ _ _ _ _ _ _ _ (sum_sums M.a s t (ls ∙ sym lt) r) (sum_sums M.b (p ∷ []) (p' ∷ []) refl r)
    (sum_sums M.t q q' lq r) (upper_met M s p q ls mx r lo hi) (upper_met M t p' q' lt my r lo hi))
    (add_up _ _ _ _ _ _ _ _ _ (sum_sums M.c s t (ls ∙ sym lt) 1) (sum_sums M.d (p ∷ []) (p' ∷ []) refl 1)
    (sum_sums M.e q q' lq 1) (lower_met M s p q ls g.some mx) (lower_met M t p' q' lt g.some my))

pub codeword_sums : (M : Matrix) → IsProper M → (s t x y : List ℕ) → IsCodeword M s x → IsCodeword M t y
    → IsCodeword M (sums s t) (sums x y)
codeword_sums M g s t x y cx cy =
    let lx = parts_long M g s x cx in
    let ly = parts_long M g t y cy in
    let lst : length s ≡ length t = lx.0 ∙ sym ly.0 in
    let whole : sums x y ≡ sums s t ++ sums (p1_at M g x ∷ p2_of M x) (p1_at M g y ∷ p2_of M y) =
    ap₂ sums (apart M g s x cx) (apart M g t y cy)
    ∙ sums_append s t (p1_at M g x ∷ p2_of M x) (p1_at M g y ∷ p2_of M y) lst in
    record {
      long = length_sums x y (cx.long ∙ sym cy.long) ∙ cx.long;
      bits = sums_are x y;
      starts = ap (λ (l : List ℕ). data_of M l) whole ∙ data_is M (sums s t) _ _ (length_sums s t lst ∙ lx.0);
      meets =
          subst (Meets M) (sym whole)
          (meets_sums M g s t _ _ _ _ lx.0 ly.0 (lx.1 ∙ sym ly.1) (subst (Meets M) (apart M g s x cx) cx.meets)
          (subst (Meets M) (apart M g t y cy) cy.meets));
    }
