-- `sheets::trailer::sheet_start` meets its contract. Assumes nothing.
use Rattle.std.proofs.Common.{length, ap, ◌∙◌}
use Rattle.std.specs.Option.{unwrap_or}
use Rattle.sheets.proofs.trailer.Laws.{start_or}
use Rattle.sheets.proofs.trailer.sheet_start.Goals as goal

pub returns : goal.returns
returns c =
    let bytes = c.args.bytes.now in
    c.unwrap_or.ensures ∙ ap (λ o. unwrap_or o (length bytes)) c.find_start.ensures ∙ start_or bytes
