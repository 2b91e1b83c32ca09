-- `sheets::trailer::read_count` meets its contract. Assumes nothing.
use Rattle.std.proofs.Common.{sym, ◌∙◌}
use Rattle.sheets.specs.Text.{bytes_in}
use Rattle.sheets.proofs.text.Laws.{same_starts}
use Rattle.sheets.proofs.trailer.Laws.{word_other, end_other, by_digits}
use Rattle.sheets.proofs.trailer.read_count.Goals as goal
use Rattle.sheets.proofs.trailer.read_count.Goals.{then-not-starts_with-via-then-not-starts_with, then-not-starts_with-via-else-not-starts_with+then-trailer-ne10}

pub returns-then-not-starts_with : goal.returns-then-not-starts_with
returns-then-not-starts_with c =
    let t = c.args.trailer.now in
    let word = same_starts t (bytes_in "back ") ∙ sym c.starts_with.ensures.value in
    elim c.then-not-starts_with.branch [
      | then-not-starts_with-via-then-not-starts_with w ↦ word_other t (word ∙ w.if-not-starts_with.true)
      | then-not-starts_with-via-else-not-starts_with+then-trailer-ne10 w ↦ end_other t (word ∙ w.if-not-starts_with.false) w.if-trailer-ne10.true
    ]

pub returns : goal.returns
returns c =
    let t = c.args.trailer.now in
    let word = same_starts t (bytes_in "back ") ∙ sym c.starts_with.ensures.value in
    c.read_digits.ensures ∙ by_digits t (word ∙ c.if-not-starts_with.false) c.if-trailer-ne10.false
