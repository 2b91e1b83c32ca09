-- `frames::symbols::Symbols::take_blocks` meets its contract. Assumes nothing.
use mathlib.Core.Path.{ap, ◌∙◌}
use Rattle.std.specs.Prelude.{is_ok}
use Rattle.frames.proofs.symbols.Laws.{both_taken, first_taken, second_taken}
use Rattle.frames.proofs.symbols.Symbols.take_blocks.Goals as goal

pub unwrap-requires : goal.unwrap-requires
unwrap-requires c =
    let frame = c.args.self in
    ap is_ok
    (c.deinterleave.ensures.0 ∙ both_taken frame.all.now frame.whole frame.bits c.args.two.now c.args.three.now c.told-two c.told-three)

pub returns : goal.returns
returns c =
    let frame = c.args.self in
    let taken = c.deinterleave.ensures in (
      taken.1 ∙ first_taken frame.all.now frame.whole frame.bits c.args.two.now c.args.three.now c.told-two c.told-three,
      taken.2 ∙ second_taken frame.all.now frame.whole frame.bits c.args.two.now c.args.three.now c.told-two c.told-three,
    )
