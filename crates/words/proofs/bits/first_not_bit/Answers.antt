-- `words::bits::first_not_bit` meets its contract. Assumes nothing.
use Rattle.std.proofs.Common.{◌≡◌, length, ltb, ap, ◌∙◌, rules, tests}
use Rattle.std.proofs.lemmas.Iterator.{YieldsList-from_slice}
use Rattle.std.proofs.lemmas.Iterator.Search.{position_from_yields_List}
use Rattle.std.specs.List.{position}
use Rattle.std.specs.Option.{unwrap_or}
use Rattle.words.proofs.bits.Laws.{first_position}
use Rattle.words.proofs.bits.first_not_bit.Goals as goal

pub returns : goal.returns
returns c =
    let bytes = c.args.bytes.now in
    let found : c.position.result ≡ position (ltb 1) bytes =
    position_from_yields_List (ltb 1) _ _ c.position.result c.position.ensures.ran (YieldsList-from_slice bytes c.iter.ensures.rest) (λ x b q k. search (rules, tests)) in
    c.unwrap_or.ensures ∙ ap (λ o. unwrap_or o (length bytes)) found ∙ first_position bytes
