-- `words::time::shift` meets its contract. Assumes nothing.
use native.Mathlib.Omega.{arith}
use Rattle.words.proofs.time.Laws.{shifts}
use Rattle.words.proofs.time.shift.Goals as goal

pub returns : goal.returns
returns c = shifts c.args.register (omega (arith, c.ranges.register.fits))
