-- The sums are those of the equations, modulo 2.
use Rattle.std.proofs.Common.{◌∙◌, ap, arith}
use Rattle.tables.specs.Matrix.{matrix_of}
use Rattle.tables.specs.Published.{proper}
use Rattle.parity.specs.Laws.Passed.{if_any, first_odd_sum, zero_sums}
use Rattle.parity.proofs.equations.Block.first_unmet.Goals as goal

pub returns : goal.returns
returns c =
    let block = c.args.self.now in
    c.first_odd.ensures
    ∙ rw (
      c.add_side_by_side.ensures,
      c.equations-n.ensures,
      c.last_sum.ensures,
      zero_sums block.subframe (matrix_of block.subframe).equations (omega arith),
    )
    (ap if_any (first_odd_sum (matrix_of block.subframe) (proper block.subframe) block.symbols.now))
