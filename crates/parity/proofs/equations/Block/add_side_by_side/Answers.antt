-- The parts that it lends are the data symbols, p1 and p2.
use Rattle.std.proofs.Common.{drop-drop}
use Rattle.tables.specs.Matrix.{matrix_of}
use Rattle.parity.specs.Laws.Passed.{side_by_side}
use Rattle.parity.proofs.equations.Block.add_side_by_side.Goals as goal

pub returns : goal.returns
unfolding side_by_side
returns c =
    let block = c.args.self.now in
    rw (
      c.add-3.ensures,
      c.add-2.ensures,
      c.add.ensures,
      c.split_at-2.ensures.front,
      c.split_at-2.ensures.back,
      c.split_at.ensures.front,
      c.split_at.ensures.back,
      c.equations.ensures,
      drop-drop 1 (matrix_of block.subframe).equations block.symbols.now,
    )
