-- `sheets::sheet::read_sheet` meets its contract. Assumes nothing.
use Rattle.std.proofs.Common.{◌≡◌, sym, ap, ◌∙◌, ℕ, ◌+◌, ◌-◌, ◌≤◌, List, Option, true, length, take, drop, Ok, Err, arith}
use Rattle.std.proofs.lemmas.Grind.{common_steps}
use Rattle.std.specs.Option.{ok_or}
use Rattle.words.specs.declared.refusal.Refusal.{Refusal}
use Rattle.sheets.specs.Trailer.{TRAILER_BYTES, trailer_place, has_trailer, start_of, lines_bytes}
use Rattle.sheets.specs.Lines.{lines_in, numbers_in, body_answer}
use Rattle.sheets.specs.Sheet.{sheet_by}
use Rattle.sheets.specs.Laws.Steps.{some_is, none_is, ok_is, err_is, start_read}
use Rattle.sheets.specs.Laws.Trailer.{start_before}
use Rattle.sheets.specs.Laws.Sheet.{read_none, read_there}
use Rattle.sheets.proofs.sheet.read_sheet.Goals as goal

pub returns-in_err-start : goal.returns-in_err-start
returns-in_err-start c =
    let s = c.args.bytes.now in
    let refused : c.from_residual.result ≡ Err c.in_err-start.field-0.0 = grind (arith, common_steps) in
    let none = err_is c.find_start.result c.at.result c.in_err-start.field-0.0 (sym c.ok_or.ensures.value ∙ c.in_err-start.was) in
    refused ∙ ap Err (none.1 ∙ c.at.ensures) ∙ sym (read_none s (none_is (has_trailer s) (start_of s) (sym c.find_start.ensures ∙ none.0)))

-- the bytes end with a trailer, and the sheet begins there, before it
begins : (s : List ℕ) (found : Option ℕ) (r : Refusal) (n : ℕ) → found ≡ start_read s → ok_or found r ≡ Ok n
    → (has_trailer s ≡ true) × (start_of s ≡ n) × (n + TRAILER_BYTES ≤ length s)
begins s found r n e f =
    let some = some_is (has_trailer s) (start_of s) n (sym e ∙ ok_is found r n f) in
    (some.0, some.1, omega (arith, start_before s some.0, some.1))

pub overflow_sub-bytes : goal.overflow_sub-bytes
overflow_sub-bytes c = omega (arith, begins _ _ _ _ c.find_start.ensures (sym c.ok_or.ensures.value ∙ c.in_ok-start.was))

pub slice_bounds-read_lines-count : goal.slice_bounds-read_lines-count
slice_bounds-read_lines-count c = omega (arith, begins _ _ _ _ c.find_start.ensures (sym c.ok_or.ensures.value ∙ c.in_ok-start.was))

pub slice_bounds-read_lines-start : goal.slice_bounds-read_lines-start
slice_bounds-read_lines-start c = omega (arith, begins _ _ _ _ c.find_start.ensures (sym c.ok_or.ensures.value ∙ c.in_ok-start.was))

pub returns : goal.returns
unfolding lines_bytes
returns c =
    let s = c.args.bytes.now in
    let start = begins _ _ _ _ c.find_start.ensures (sym c.ok_or.ensures.value ∙ c.in_ok-start.was) in
    c.read_lines.ensures
    ∙ ap
    (λ (n : ℕ). let lines = take (trailer_place s - n) (drop n s) in sheet_by (body_answer lines) (numbers_in (lines_in lines)) n)
    (sym start.1)
    ∙ sym (read_there s start.0)
