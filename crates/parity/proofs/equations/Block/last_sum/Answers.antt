-- C D E have one row.
use Rattle.tables.specs.Matrix.{matrix_of}
use Rattle.tables.specs.Published.{proper}
use Rattle.parity.specs.Laws.Passed.{last_right}
use Rattle.parity.proofs.equations.Block.last_sum.Goals as goal

pub returns : goal.returns
returns c =
    let block = c.args.self.now in
    rw c.add_side_by_side.ensures (last_right (matrix_of block.subframe) (proper block.subframe) block.symbols.now)
