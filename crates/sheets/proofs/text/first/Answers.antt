-- `sheets::text::first` meets its contract. Assumes nothing.
use Rattle.std.proofs.Common.{eqb, sym, ◌∙◌, rules, tests}
use Rattle.std.proofs.lemmas.Iterator.{YieldsList-from_slice}
use Rattle.std.proofs.lemmas.Iterator.Search.{position_from_yields_List}
use Rattle.sheets.proofs.text.Laws.{first_position}
use Rattle.sheets.proofs.text.first.Goals as goal

pub returns : goal.returns
returns c =
    let a = c.args in
    position_from_yields_List (λ x. eqb x a.b) _ _ c.position.result c.position.ensures.ran (YieldsList-from_slice a.bytes.now c.iter.ensures.rest) (λ x b q k. search (rules, tests))
    ∙ sym (first_position a.b a.bytes.now)
