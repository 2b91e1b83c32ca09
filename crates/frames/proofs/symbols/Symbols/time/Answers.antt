-- `frames::symbols::Symbols::time` meets its contract. Assumes nothing.
use mathlib.Core.Path.{sym}
use native.Mathlib.Omega.{arith}
use lib.Seq.{length-take-le}
use Rattle.frames.proofs.symbols.Symbols.time.Goals as goal

pub slice_bounds-read_time-end : goal.slice_bounds-read_time-end
slice_bounds-read_time-end c =
    let frame = c.args.self in
    sym (length-take-le 52 frame.all.now (omega (arith, frame.whole)))
