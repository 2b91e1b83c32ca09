-- `sheets::list::name_position` meets its contract: what it compares a name with are the names of the list. Assumes nothing.
use Rattle.std.proofs.Common.{refl, ap, eqb, ◌∙◌, rules, tests}
use Rattle.std.proofs.lemmas.Iterator.{YieldsList-from_slice}
use Rattle.std.proofs.lemmas.Iterator.Search.{position_from_yields_List}
use lib.Pointwise.{pointwise}
use Rattle.fields.specs.Table.{subframe2_rows}
use Rattle.sheets.specs.List.{sheet_rows, sheet_names}
use Rattle.sheets.proofs.list.Laws.{names_of, listed_as}
use Rattle.sheets.proofs.list.name_position.Goals as goal

pub returns : goal.returns
unfolding sheet_names sheet_rows subframe2_rows
returns c =
    let name = c.args.name.now in
    let lent = c.iter.result.rest.now in
    position_from_yields_List (λ x. pointwise eqb x.now name) _ _ c.position.result c.position.ensures.ran (YieldsList-from_slice lent refl)
    (λ x b q k. search (rules, tests))
    ∙ listed_as name lent (ap names_of c.iter.ensures.rest)
