-- `programs::building::build_input` meets its contract, part by part. Assumes nothing.
use Rattle.std.proofs.Common.{◌≡◌, ◌∙◌, sym, ap, rules}
use Rattle.std.specs.Prelude.{Err}
use Rattle.programs.proofs.building.Laws.{too_long, no_newline, line_refused, line_taken, taken_bits}
use Rattle.programs.proofs.building.build_input.Goals as goal

pub returns-then-input-gt-MOST_INPUT : goal.returns-then-input-gt-MOST_INPUT
returns-then-input-gt-MOST_INPUT c = too_long c.args.input.now c.args.frame.now _ c.if-input-gt-MOST_INPUT.true (ap Err c.at.ensures)

pub returns-in_default : goal.returns-in_default
returns-in_default c =
    no_newline c.args.input.now c.args.frame.now _ c.if-input-gt-MOST_INPUT.false c.in_default.ensures (ap Err c.at-in_default.ensures)

pub returns-in_err-page : goal.returns-in_err-page
returns-in_err-page c =
    let split = c.in-Some.ensures in
    let r = c.in_err-page.field-0.0 in
    let refused : c.from_residual.result ≡ Err r = search rules in
    line_refused c.args.input.now c.args.frame.now _ c.if-input-gt-MOST_INPUT.false split.0 c.in-Some.line.now split.1 r
    (sym c.take_symbols.ensures ∙ c.in_err-page.was) refused

pub build_behind-requires : goal.build_behind-requires
build_behind-requires c = taken_bits c.in-Some.line.now c.in_ok-page.page (sym c.take_symbols.ensures ∙ c.in_ok-page.was)

pub returns : goal.returns
returns c =
    let split = c.in-Some.ensures in
    line_taken c.args.input.now c.args.frame.now _ c.if-input-gt-MOST_INPUT.false split.0 c.in-Some.line.now split.1 c.in-Some.behind.now c.in_ok-page.page _
    split.2 (sym c.take_symbols.ensures ∙ c.in_ok-page.was) c.build_behind.ensures
