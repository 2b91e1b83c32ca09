-- `words::time::write_word` meets its contract. The invariant: what is written behind the first, and what is still to leave the register, is the
-- word's rest. Assumes nothing.
use mathlib.Core.Path.{◌∙◌}
use Prim.Native.Nat.{◌/◌, ◌%◌}
use native.Mathlib.Omega.{arith}
use lib.ListN.{length-set}
use Rattle.words.proofs.time.Laws.{word_more, word_done}
use Rattle.words.proofs.time.write_word.Goals as goal

pub loop-symbol-preserved : goal.loop-symbol-preserved
loop-symbol-preserved c =
    let loop = c.loop-symbol in (
      simp length-set loop.invariant.0,
      word_more loop.symbol-items (c.args.toi / 256 % 2) loop.register loop.symbol-index c.shift-register.result
          (omega arith) (omega (arith, loop.auto.register-fits.fits)) loop.invariant.0
          (omega (arith, c.loop-symbol-test.true, loop.auto.symbol-items, loop.invariant.0)) c.shift-register.ensures ∙ loop.invariant.1,
    )

pub returns : goal.returns
returns c =
    let loop = c.loop-symbol in
    word_done c.args.out.now loop.symbol-items c.args.toi loop.register loop.symbol-index _ c.requires (omega arith) loop.invariant.0
    (omega (arith, c.loop-symbol-test.false, loop.auto.symbol-items, loop.invariant.0)) loop.invariant.1
