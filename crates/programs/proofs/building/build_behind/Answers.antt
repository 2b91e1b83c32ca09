-- `programs::building::build_behind` meets its contract: the numbers of a sheet that is read are in range. Assumes nothing.
use Rattle.std.proofs.Common.{◌≡◌, ◌∙◌, sym, ap, rules}
use Rattle.std.specs.Prelude.{Err}
use Rattle.programs.proofs.building.Laws.{read_range, begins_later, sheet_refused, sheet_built}
use Rattle.programs.proofs.building.build_behind.Goals as goal

pub returns-then-elsewhere : goal.returns-then-elsewhere
returns-then-elsewhere c =
    begins_later c.args.page.now c.args.bytes.now c.args.frame.now _ (λ e. c.if-elsewhere.true (c.sheet_start-start.ensures ∙ e)) (ap Err c.at.ensures)

pub returns-in_err-sheet : goal.returns-in_err-sheet
returns-in_err-sheet c =
    let r = c.in_err-sheet.field-0.0 in
    let refused : c.from_residual.result ≡ Err r = search rules in
    sheet_refused c.args.page.now c.args.bytes.now c.args.frame.now _ (sym c.sheet_start-start.ensures ∙ c.if-elsewhere.false) r
    (sym c.read_sheet.ensures ∙ c.in_err-sheet.was) refused

pub build_numbers-requires : goal.build_numbers-requires
build_numbers-requires c =
    (read_range c.args.bytes.now c.in_ok-sheet.sheet (sym c.read_sheet.ensures ∙ c.in_ok-sheet.was), c.requires)

pub returns : goal.returns
returns c =
    sheet_built c.args.page.now c.args.bytes.now c.args.frame.now _ (sym c.sheet_start-start.ensures ∙ c.if-elsewhere.false) c.in_ok-sheet.sheet _
    (sym c.read_sheet.ensures ∙ c.in_ok-sheet.was) c.build_numbers.ensures
