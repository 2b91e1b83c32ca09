-- `sheets::sheet::finished_sheet` meets its contract. Assumes nothing.
use Rattle.std.proofs.Common.{ℕ, ℤ, ◌+◌, List, is_none, ltb, length, sym, ap, ◌∙◌}
use Rattle.std.specs.Prelude.{Err}
use Rattle.std.specs.List.{position_or_len}
use Rattle.words.specs.Refusal.{NAME_MISSING, refused_at}
use Rattle.sheets.specs.Sheet.{sheet_is}
use Rattle.sheets.specs.Laws.Steps.{some_is, none_is, finished_sheet}
use Rattle.sheets.proofs.sheet.finished_sheet.Goals as goal

pub returns-in-Some : goal.returns-in-Some
unfolding finished_sheet
returns-in-Some c =
    let found = c.args.found.now in
    let place = position_or_len is_none found in
    let some = some_is (ltb place (length found)) place c.in-Some.missing (sym c.first_missing.ensures ∙ c.in-Some.is) in
    ap Err c.at.ensures ∙ ap (λ (k : ℕ). refused_at NAME_MISSING (k + 1)) (sym some.1) ∙ rw some.0

pub returns : goal.returns
unfolding finished_sheet
returns c =
    let found = c.args.found.now in
    let place = position_or_len is_none found in
    rw (none_is (ltb place (length found)) place (sym c.first_missing.ensures ∙ c.in_default.is))
    (ap (λ (zs : List ℤ). sheet_is zs c.args.before) c.numbers_found-numbers.ensures)
