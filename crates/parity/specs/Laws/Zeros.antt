-- Lists of zeros.
-- Assumes nothing.
use Rattle.std.specs.Prelude.{◌≡◌, refl, ℕ, zero, suc, get_or, replicate}
use Rattle.std.proofs.Common.{arith}
use Rattle.words.specs.Bits.{IsBits}

pub zero_at : (n k : ℕ) → ◌≡◌ {A = ℕ} (get_or (replicate n 0) k 0) 0
zero_at zero k = refl
zero_at (suc n) zero = refl
zero_at (suc n) (suc k) = zero_at n k

pub zeros_bits : (n : ℕ) → IsBits (replicate n 0)
zeros_bits n = record { bit = λ k. omega (arith, zero_at n k) }
