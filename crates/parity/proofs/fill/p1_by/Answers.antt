-- C, D and E have one row, and what they add up to is the last equation.
use Rattle.std.proofs.Common.{[], ◌∷◌, arith}
use Rattle.tables.specs.Coordinates.{added}
use Rattle.tables.specs.Matrix.{matrix_of}
use Rattle.tables.specs.Published.{proper}
use Rattle.tables.specs.declared.matrix.Submatrix.TheVariants.{C, D, E}
use Rattle.tables.specs.Laws.Passes.{length_added}
use Rattle.parity.specs.Laws.Parts.{last_is}
use Rattle.parity.specs.Laws.Rows.{added_right}
use Rattle.parity.proofs.fill.p1_by.Goals as goal

pub returns : goal.returns
returns c =
    let M = matrix_of c.args.subframe in
    let g = proper c.args.subframe in
    let s = c.args.symbols.now in
    let p2 = c.args.p2.now in
    let one = added M.c s (0 ∷ []) in
    let two = added M.d (0 ∷ []) one in
    rw (c.add-3.ensures, c.add-2.ensures, c.add.ensures)
    (omega (
      arith,
      added_right 1 _ M.c (g.within C) s (0 ∷ []) (omega arith) 1 (omega arith) (omega arith),
      added_right 1 _ M.d (g.within D) (0 ∷ []) one (omega (arith, length_added M.c s (0 ∷ []))) 1 (omega arith) (omega arith),
      added_right 1 _ M.e (g.within E) p2 two (omega (arith, length_added M.c s (0 ∷ []), length_added M.d (0 ∷ []) one)) 1 (omega arith) (omega arith),
      last_is M s 0 p2 c.requires,
    ))
