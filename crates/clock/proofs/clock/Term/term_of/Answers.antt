-- `clock::clock::Term::term_of` meets its contract: an integer times a power of two is exact. Assumes nothing.
use Rattle.std.proofs.Common.{◌^◌, ◌<◌, nat_abs, arith, w64}
use lib.Signed.{nat_abs-le}
use mir.ValLaws.{to_z-of_z}
use Rattle.clock.proofs.clock.Powers.{down_steps}
use Rattle.clock.proofs.clock.Term.term_of.Goals as goal

pub returns : goal.returns
returns c =
    let z = c.args.count in
    let digits : nat_abs z < 2 ^ 53 = omega (arith, nat_abs-le z c.requires) in
    rw (c.nearest_i64_to_f64.ensures, c.power.ensures, to_z-of_z w64 z c.ranges.count)
    (down_steps c.args.self.step z digits (omega (arith, c.args.self.small_step)))
