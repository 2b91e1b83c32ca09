-- THEOREMS: what the check bits notice, for blocks of any length up to 600.
-- Assumes nothing.
use Rattle.std.specs.Prelude.{◌≡◌, List, ◌⊎◌, ℕ, ◌%◌, ◌≤◌, length}
use Rattle.std.proofs.Common.{⊎_elim, arith}
use Rattle.words.specs.Bits.{IsBits}
use Rattle.words.specs.Sums.{differing, Within24}
use Rattle.words.specs.Crc.{Right, BothRight}
use Rattle.words.specs.Laws.Sums.{differing_none}
use Rattle.words.specs.Laws.TwoBlocks.{sum_even, sum_two, sum_within, at_least_four}

-- how two blocks differ that the check bits do not tell from one another
pub record Unnoticed (a b : List ℕ) : Type 0 where
  -- in an even number of places
  pub even : differing a b % 2 ≡ 0
  -- in at least four
  pub four : 4 ≤ differing a b
  -- and not only within 24 neighbouring places
  pub wide : (p : ℕ) → Within24 a b p → ⊥

-- Two different blocks of one length up to 600 that are both right differ in an even number of places, in at least
-- four, and not only within 24 neighbouring places.
pub unnoticed : (a b : List ℕ) → BothRight a b → length a ≤ 600 → (a ≡ b → ⊥) → Unnoticed a b
unnoticed a b h short ne =
    let some : differing a b ≡ 0 → ⊥ = λ z. ne (differing_none a b z) in
    record {
      even = sum_even a b h;
      four = at_least_four (differing a b) (sum_even a b h) some (sum_two a b h short);
      wide = λ p near. some (sum_within a b h p near);
    }

-- The same of a right block and what became of it: changed in an odd number of places, in two, or only within 24
-- neighbouring places, it is not right.
pub noticed : (a b : List ℕ) → length a ≡ length b → length a ≤ 600 → IsBits a → IsBits b → Right a → (a ≡ b → ⊥)
    → (differing a b % 2 ≡ 1) ⊎ ((differing a b ≡ 2) ⊎ ((p : ℕ) × Within24 a b p)) → Right b → ⊥
noticed a b e short ba bb ra ne how rb =
    let u = unnoticed a b (record { one_length = e; bits_a = ba; bits_b = bb; right_a = ra; right_b = rb }) short ne in
    ⊎_elim
    (λ odd. omega (arith, u.even))
    (λ h. ⊎_elim (λ two. omega (arith, u.four)) (λ w. u.wide w.0 w.1) h)
    how
