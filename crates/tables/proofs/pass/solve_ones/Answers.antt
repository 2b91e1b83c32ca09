use Rattle.std.proofs.Common.{◌≡◌, get_or, sym, ◌∙◌, eq-eqb, ne_eqb}
use Rattle.std.proofs.lemmas.List.{at_drop_more, at_drop_all}
use Rattle.tables.specs.Coordinates.{ones, substituted, solved}
use Rattle.tables.proofs.pass.solve_ones.Goals as goal
use Rattle.tables.proofs.pass.solve_ones.Goals.{then-row-column, else-row-column}

pub loop-row-preserved : goal.loop-row-preserved
unfolding ones solved
loop-row-preserved c =
    let loop = c.loop-row in
    let one = get_or c.args.table.now loop.row-index (0, 0) in
    let next = at_drop_more (λ t. solved (ones t) loop.unknowns) c.args.table.now loop.row-index (0, 0) c.loop-row-test.true in
    let step : c.if-row-column.unknowns ≡ substituted loop.unknowns one.0 one.1 =
    elim c.if-row-column.branch [
      | then-row-column w ↦ rw (w.unknowns-is, w.add_at.ensures, w.symbol_at.ensures, ne_eqb one.0 one.1 w.if-row-column.true)
      | else-row-column w ↦ rw (w.unknowns-is, eq-eqb one.0 one.1 w.if-row-column.false)
    ] in
    rw step (sym next ∙ loop.invariant)

pub returns : goal.returns
unfolding ones solved
returns c =
    let loop = c.loop-row in
    sym (at_drop_all (λ t. solved (ones t) loop.unknowns) c.args.table.now loop.row-index c.loop-row-test.false) ∙ loop.invariant
