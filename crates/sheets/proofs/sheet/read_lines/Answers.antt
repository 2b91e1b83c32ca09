-- `sheets::sheet::read_lines` meets its contract. The loop keeps how far reading has come. Assumes nothing.
use Rattle.std.proofs.Common.{◌≡◌, sym, ap, ◌∙◌, length, length-drop, arith, Err, rules, tests}
use lib.Seq.{take_all}
use mir.Facts.{to_z-of_z}
use mir.Syntax.{w64}
use Rattle.std.proofs.lemmas.Fn.{always_returns_same}
use Rattle.std.proofs.lemmas.Grind.{common_steps}
use Rattle.std.proofs.lemmas.Option.{MatchOption-at_none, MatchOption-at_some}
use Rattle.words.specs.Refusal.{Answer, refusal_at, number}
use Rattle.sheets.specs.Lines.{lines_in, numbers_in}
use Rattle.sheets.specs.Sheet.{sheet_by}
use Rattle.sheets.specs.Laws.List.{listed_many}
use Rattle.sheets.specs.Laws.Steps.{ok_is, err_is}
use Rattle.sheets.proofs.sheet.Laws.{nothing_read, all_read, piece_cut, piece_fits, left_is, endless, piece_refused, piece_listed, piece_given, mapped_ok, mapped_err}
use Rattle.sheets.proofs.sheet.read_lines.Goals as goal

pub loop-ended-init : goal.loop-ended-init
loop-ended-init c =
    (nothing_read c.args.lines.now, omega arith, grind (arith, common_steps, take_all))

pub returns-in_err-line : goal.returns-in_err-line
returns-in_err-line c =
    let loop = c.loop-ended in
    let piece = piece_cut c.args.lines.now loop.at loop.invariant.2 c.in-Some.ensures.steps (always_returns_same _ _ _ (λ a r q k. search (rules, tests))) in
    let refused : c.from_residual.result ≡ Err c.in_err-line.field-0.0 = grind (arith, common_steps) in
    let none = err_is c.strip_suffix.result c.at.result c.in_err-line.field-0.0 (sym c.ok_or.ensures.value ∙ c.in_err-line.was) in
    refused
    ∙ ap Err (none.1 ∙ c.at.ensures)
    ∙ ap (λ (x : Answer). sheet_by x (numbers_in (lines_in c.args.lines.now)) c.args.before)
    (sym (endless piece loop.invariant.0 (MatchOption-at_none _ _ none.0 c.strip_suffix.ensures.cases)))

pub returns-in_err-k : goal.returns-in_err-k
returns-in_err-k c =
    let loop = c.loop-ended in
    let piece = piece_cut c.args.lines.now loop.at loop.invariant.2 c.in-Some.ensures.steps (always_returns_same _ _ _ (λ a r q k. search (rules, tests))) in
    let some = ok_is c.strip_suffix.result c.at.result c.in_ok-line.line (sym c.ok_or.ensures.value ∙ c.in_ok-line.was) in
    let line = MatchOption-at_some _ _ _ some c.strip_suffix.ensures.cases in
    let refused : c.from_residual-in_err-k.result ≡ Err c.in_err-k.field-0.0 = grind (arith, common_steps) in
    let rule = mapped_err _ c.judge_line.result c.map_err.result c.in_err-k.field-0.0 c.map_err.ensures.cases c.in_err-k.was in
    let is : c.in_err-k.field-0.0 ≡ refusal_at (number rule.0) loop.at = search (rules, tests) in
    refused
    ∙ ap Err is
    ∙ ap (λ (x : Answer). sheet_by x (numbers_in (lines_in c.args.lines.now)) c.args.before)
    (sym (piece_refused piece loop.invariant.0 line.0 c.in_ok-line.line.now line.1 (sym c.judge_line.ensures ∙ rule.1)))

pub bounds-found-k : goal.bounds-found-k
bounds-found-k c =
    let loop = c.loop-ended in
    let piece = piece_cut c.args.lines.now loop.at loop.invariant.2 c.in-Some.ensures.steps (always_returns_same _ _ _ (λ a r q k. search (rules, tests))) in
    let some = ok_is c.strip_suffix.result c.at.result c.in_ok-line.line (sym c.ok_or.ensures.value ∙ c.in_ok-line.was) in
    let line = MatchOption-at_some _ _ _ some c.strip_suffix.ensures.cases in
    let given = mapped_ok _ c.judge_line.result c.map_err.result (c.in_ok-k.k, c.in_ok-k.number) c.map_err.ensures.cases c.in_ok-k.was in
    omega (arith, listed_many, piece_listed piece loop.invariant.0 line.0 c.in_ok-line.line.now line.1 (sym c.judge_line.ensures ∙ given))

pub offset_bounds-found-k : goal.offset_bounds-found-k
offset_bounds-found-k c =
    let loop = c.loop-ended in
    let piece = piece_cut c.args.lines.now loop.at loop.invariant.2 c.in-Some.ensures.steps (always_returns_same _ _ _ (λ a r q k. search (rules, tests))) in
    let some = ok_is c.strip_suffix.result c.at.result c.in_ok-line.line (sym c.ok_or.ensures.value ∙ c.in_ok-line.was) in
    let line = MatchOption-at_some _ _ _ some c.strip_suffix.ensures.cases in
    let given = mapped_ok _ c.judge_line.result c.map_err.result (c.in_ok-k.k, c.in_ok-k.number) c.map_err.ensures.cases c.in_ok-k.was in
    omega (arith, listed_many, piece_listed piece loop.invariant.0 line.0 c.in_ok-line.line.now line.1 (sym c.judge_line.ensures ∙ given))

pub loop-ended-preserved : goal.loop-ended-preserved
loop-ended-preserved c =
    let loop = c.loop-ended in
    let piece = piece_cut c.args.lines.now loop.at loop.invariant.2 c.in-Some.ensures.steps (always_returns_same _ _ _ (λ a r q k. search (rules, tests))) in
    let some = ok_is c.strip_suffix.result c.at.result c.in_ok-line.line (sym c.ok_or.ensures.value ∙ c.in_ok-line.was) in
    let line = MatchOption-at_some _ _ _ some c.strip_suffix.ensures.cases in
    let given = mapped_ok _ c.judge_line.result c.map_err.result (c.in_ok-k.k, c.in_ok-k.number) c.map_err.ensures.cases c.in_ok-k.was in (
      rw (to_z-of_z {w = w64} {z = c.in_ok-k.number} (search rules))
          (piece_given piece loop.invariant.0 line.0 c.in_ok-line.line.now line.1 (sym c.judge_line.ensures ∙ given)),
      piece_fits piece,
      left_is piece,
    )

pub returns : goal.returns
returns c =
    let loop = c.loop-ended in
    c.finished_sheet.ensures ∙ all_read loop.invariant.0 c.args.before (omega (arith, c.in-None.ensures.steps, ap length loop.invariant.2, length-drop loop.at c.args.lines.now))
