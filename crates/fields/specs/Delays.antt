-- THEOREMS: which counts of tgd, iscp and iscd are delays.
-- Assumes nothing.
use Rattle.std.specs.Prelude.{◌≡◌, refl, Bool, cond, ℤ, pos, negsuc, None, Some}
use Rattle.std.proofs.Common.{ap, ne_eqb}
use Rattle.fields.specs.Delay.{delay_of}

-- -4096 is no delay: none is available.
pub delay_absent : delay_of (negsuc 4095) ≡ None
delay_absent = refl

-- Every other count is the delay, -4095 among them.
pub delay_present : (z : ℤ) → (z ≡ negsuc 4095 → ⊥) → delay_of z ≡ Some z
delay_present (pos n) h = refl
delay_present (negsuc n) h = ap (λ (t : Bool). cond t None (Some (negsuc n))) (ne_eqb n 4095 (λ e. h (ap negsuc e)))
