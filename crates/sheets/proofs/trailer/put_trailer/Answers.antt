-- `sheets::trailer::put_trailer` meets its contract: the array that it lays out is the trailer's text. Assumes nothing.
use Rattle.std.proofs.Common.{ℕ, ◌++◌, ap, ◌∙◌}
use Rattle.sheets.specs.Trailer.{trailer_text}
use Rattle.sheets.proofs.trailer.put_trailer.Goals as goal

pub returns : goal.returns
unfolding trailer_text
returns c = c.put.ensures ∙ ap (λ (n : ℕ). c.args.sheet.now ++ trailer_text n) c.len-count.ensures
