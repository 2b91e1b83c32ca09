-- Two right blocks of one length: their sum is right, and its ones are the places in which they differ.
-- Assumes nothing.
use Rattle.std.specs.Prelude.{◌≡◌, refl, Bool, true, false, List, ℕ, zero, suc, ◌%◌, ◌≤◌, eqb, length, get_or}
use Rattle.std.proofs.Common.{sym, ap, ap₂, ◌∙◌, arith, eqb-true}
use Rattle.std.specs.Int.Bits.{bit_xor}
use Rattle.std.proofs.lemmas.Bool.{eqb-false}
use Rattle.words.specs.Sums.{add2, sums, weight, differing, Within24}
use Rattle.words.specs.Crc.{Right, BothRight}
use Rattle.words.specs.Laws.Sums.{length_sums, sums_at, sums_are, differing_weight}
use Rattle.words.specs.Laws.Crc.{remainder_from_xor}
use Rattle.words.specs.Laws.Runs.{not_two, even_ones, not_within}

module _ (a b : List ℕ) (h : BothRight a b) where
  sum_right : Right (sums a b)
  sum_right = remainder_from_xor 0 0 a b h.one_length ∙ ap₂ bit_xor h.right_a h.right_b

  sum_weight : differing a b ≡ weight (sums a b)
  sum_weight = differing_weight a b h.one_length h.bits_a h.bits_b

  pub sum_even : differing a b % 2 ≡ 0
  sum_even = ap (λ (n : ℕ). n % 2) sum_weight ∙ even_ones (sums a b) sum_right

  pub sum_two : length a ≤ 600 → differing a b ≡ 2 → ⊥
  sum_two short e =
      not_two (sums a b) (omega (arith, length_sums a b h.one_length)) (sums_are a b) sum_right (sym sum_weight ∙ e)

  sum_at : (i : ℕ) → ((get_or a i 0 ≡ get_or b i 0 → ⊥) → ⊥) → get_or (sums a b) i 0 ≡ 0
  sum_at i same = go (eqb (get_or a i 0) (get_or b i 0)) refl
    where
      twice : (x : ℕ) → add2 x x ≡ 0
      twice x = omega arith

      go : (t : Bool) → eqb (get_or a i 0) (get_or b i 0) ≡ t → get_or (sums a b) i 0 ≡ 0
      go true e =
          sums_at a b h.one_length i
          ∙ ap (λ (x : ℕ). add2 x (get_or b i 0)) (eqb-true (get_or a i 0) (get_or b i 0) e) ∙ twice (get_or b i 0)
      go false e = absurd (same (eqb-false (get_or a i 0) (get_or b i 0) e))

  pub sum_within : (p : ℕ) → Within24 a b p → differing a b ≡ 0
  sum_within p near =
      sum_weight
      ∙ not_within p (sums a b) (sums_are a b) (λ i g. sum_at i (λ ne. omega (arith, (near.inside i ne).0)))
      (λ i g. sum_at i (λ ne. omega (arith, (near.inside i ne).1))) sum_right

pub at_least_four : (n : ℕ) → n % 2 ≡ 0 → (n ≡ 0 → ⊥) → (n ≡ 2 → ⊥) → 4 ≤ n
at_least_four zero e z t = absurd (z refl)
at_least_four (suc zero) e z t = absurd (omega arith)
at_least_four (suc (suc zero)) e z t = absurd (t refl)
at_least_four (suc (suc (suc zero))) e z t = absurd (omega arith)
at_least_four (suc (suc (suc (suc n)))) e z t = omega arith
