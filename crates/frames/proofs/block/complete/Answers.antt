-- `frames::block::complete` meets its contract. Assumes nothing.
use mathlib.Core.Path.{sym, ap, ◌∙◌}
use native.Mathlib.Omega.{arith}
use lib.Seq.{length-take-le}
use Rattle.std.specs.Prelude.{is_ok}
use Rattle.frames.proofs.block.Laws.{completed, filled}
use Rattle.frames.proofs.block.complete.Goals as goal

pub slice_bounds-put_check-end-2 : goal.slice_bounds-put_check-end-2
slice_bounds-put_check-end-2 c = sym (length-take-le c.equations-n.result c.args.block.now (omega (arith, c.equations-n.ensures, c.requires.0)))

pub unwrap-requires-2 : goal.unwrap-requires-2
unwrap-requires-2 c =
    ap is_ok
    (c.fill_parity.ensures.0
    ∙ filled c.args.subframe c.args.block.now c.put_check.new.block c.equations-n.result c.requires.0 c.requires.1
    c.equations-n.ensures c.put_check.auto.block c.put_check.ensures.1)

pub returns : goal.returns
returns c =
    completed c.args.subframe c.args.block.now c.put_check.new.block c.equations-n.result c.requires.0 c.requires.1
    c.equations-n.ensures c.put_check.auto.block c.put_check.ensures.1 c.fill_parity.new.block c.fill_parity.ensures.1
