-- `programs::symbols::first_other` meets its contract. Assumes nothing.
use Rattle.std.proofs.Common.{◌≡◌, sym, subst, Option, ℕ, rules}
use Rattle.std.specs.List.{position}
use Rattle.std.proofs.lemmas.Iterator.{YieldsList-from_slice}
use Rattle.std.proofs.lemmas.Iterator.Search.{position_from_yields_List}
use Rattle.programs.proofs.symbols.Laws.{is_other, FoundOther, other_found}
use Rattle.programs.proofs.symbols.first_other.Goals as goal

pub returns : goal.returns
returns c =
    let l = c.args.characters.now in
    let found : c.position.result ≡ position is_other l =
    position_from_yields_List is_other _ _ _ c.position.ensures.ran (YieldsList-from_slice l cc) (λ x b q k. search rules) in
    subst (λ (o : Option ℕ). FoundOther l o) (sym found) (other_found l)
