-- `words::bits::put_bits` meets its contract. The invariant: what is left to put gives, on the bytes as they are, the bytes that are asked for.
-- Assumes nothing.
use mathlib.Core.Path.{sym, ◌∙◌}
use native.Mathlib.Omega.{arith}
use lib.ListN.{length-set}
use Rattle.words.proofs.bits.Laws.{bits_left, none_left}
use Rattle.words.proofs.bits.put_bits.Goals as goal

pub loop-left-preserved : goal.loop-left-preserved
loop-left-preserved c =
    let loop = c.loop-left in (
      simp length-set (omega arith),
      bits_left loop.bytes c.args.at loop.left loop.rest c.loop-left-test.true ∙ loop.invariant.1,
    )

pub returns : goal.returns
returns c =
    let loop = c.loop-left in
    sym (none_left loop.bytes c.args.at loop.left loop.rest (omega (arith, c.loop-left-test.false))) ∙ loop.invariant.1
