use Rattle.std.proofs.Common.{sym, ◌∙◌}
use Rattle.std.proofs.lemmas.List.{at_drop_more, at_drop_all}
use Rattle.tables.specs.Coordinates.{ones, added}
use Rattle.tables.proofs.pass.add_ones.Goals as goal

pub loop-row-preserved : goal.loop-row-preserved
unfolding ones added
loop-row-preserved c =
    let loop = c.loop-row in
    rw (c.add_at.ensures, c.symbol_at.ensures)
    (sym (at_drop_more (λ t. added (ones t) c.args.symbols.now loop.sums) c.args.table.now loop.row-index (0, 0) c.loop-row-test.true)
    ∙ loop.invariant)

pub returns : goal.returns
unfolding ones added
returns c =
    let loop = c.loop-row in
    sym (at_drop_all (λ t. added (ones t) c.args.symbols.now loop.sums) c.args.table.now loop.row-index c.loop-row-test.false)
    ∙ loop.invariant
