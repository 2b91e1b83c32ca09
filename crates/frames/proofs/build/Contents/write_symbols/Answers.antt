-- `frames::build::Contents::write_symbols` meets its contract. Assumes nothing.
use mathlib.Core.Path.{sym, ap, ◌∙◌}
use Rattle.std.specs.Prelude.{is_ok}
use native.Mathlib.Omega.{arith}
use lib.Seq.{length-take-le}
use Rattle.frames.proofs.build.Laws.{symbols_put, word_fits, symbols_fit}
use Rattle.frames.proofs.build.Contents.write_symbols.Goals as goal

pub slice_bounds-write_time-end-2 : goal.slice_bounds-write_time-end-2
slice_bounds-write_time-end-2 c = sym (length-take-le 52 c.args.frame.now (omega (arith, c.requires.2)))

pub unwrap-requires : goal.unwrap-requires
unwrap-requires c =
    ap is_ok (c.write_time.ensures.0 ∙ word_fits c.args.self.toi c.args.two.now c.args.three.now c.args.frame.now c.write_time.new.out
    c.args.frame.now c.requires.2 c.args.self.time c.write_time.ensures.1)

pub unwrap-requires-2 : goal.unwrap-requires-2
unwrap-requires-2 c =
    ap is_ok (c.interleave.ensures.0 ∙ symbols_fit c.args.self.toi c.args.two.now c.args.three.now c.args.frame.now c.write_time.new.out
    c.interleave.new.symbols c.requires.2 c.args.self.time c.write_time.ensures.1
    c.told-two c.requires.0 c.told-three c.requires.1)

pub returns : goal.returns
returns c =
    symbols_put c.args.self.toi c.args.two.now c.args.three.now c.args.frame.now c.write_time.new.out
    c.interleave.new.symbols c.requires.2 c.args.self.time c.write_time.ensures.1
    c.told-two c.requires.0 c.told-three c.requires.1 c.interleave.ensures.1
