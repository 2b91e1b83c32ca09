-- `clock::clock::power` meets its contract: a power of two has only exponent bits. Assumes nothing.
use Rattle.std.proofs.Common.{◌≡◌, ℕ, ◌*◌, ◌%◌, ◌^◌, ◌<◌, arith}
use Rattle.clock.proofs.clock.Powers.{power_bits, power_no_nan}
use Rattle.clock.proofs.clock.power.Goals as goal

-- the exponent stands in the bits from 52 on
shifted : (e : ℕ) → e < 2047 → e * 2 ^ 52 % 2 ^ 64 ≡ e * 2 ^ 52
shifted e h = omega arith

pub float_from_bits-result : goal.float_from_bits-result
float_from_bits-result c = rw (shifted c.args.e c.requires.1) (power_no_nan c.args.e c.requires.0 c.requires.1)

pub returns : goal.returns
returns c = rw (shifted c.args.e c.requires.1) (power_bits c.args.e c.requires.0 c.requires.1)
