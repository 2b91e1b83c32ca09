-- `exports::lent::put_numbers` meets its contract. Assumes nothing.
use Rattle.std.proofs.Common.{pos, w64, arith}
use mir.Facts.{to_z_pos}
use Rattle.exports.proofs.lent.Laws.{put_behind}
use Rattle.exports.proofs.lent.put_numbers.Goals as goal

pub returns : goal.returns
returns c =
    rw (c.copy_from_slice.ensures.after, c.from.ensures, to_z_pos w64 {n = c.args.toi} (omega (arith, c.ranges.toi.fits)))
    (put_behind (pos c.args.toi) c.args.counts.now c.args.into.now c.requires)
