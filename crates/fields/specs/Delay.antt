-- Delays (document 01, "Subframe 2"): for tgd, iscp and iscd the count -4096 means not available.
-- Assumes nothing.
use Rattle.std.specs.Prelude.{Bool, false, cond, eqb, ℤ, pos, negsuc, Option, None, Some}

-- -4096, the count whose 13 bits are a one and twelve zeros
abbrev pub is_absent : ℤ → Bool
is_absent (pos n) = false
is_absent (negsuc n) = eqb n 4095

-- what a count of one of the three says: no delay is available, or that many steps of 2^-35 s
abbrev pub delay_of : ℤ → Option ℤ
delay_of z = cond (is_absent z) None (Some z)
