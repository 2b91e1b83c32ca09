-- `sheets::trailer::find_start` meets its contract. Assumes nothing.
use Rattle.std.proofs.Common.{◌∙◌, arith}
use Rattle.sheets.proofs.trailer.Laws.{too_short, none_ends, over_most, begins}
use Rattle.sheets.proofs.trailer.find_start.Goals as goal

pub returns-in_err-place : goal.returns-in_err-place
returns-in_err-place c = c.from_residual.ensures ∙ too_short c.args.bytes.now c.in_err-place.ensures

pub returns-in_err-count : goal.returns-in_err-count
returns-in_err-count c =
    c.from_residual-in_err-count.ensures
    ∙ none_ends c.args.bytes.now c.in_ok-place.place (omega (arith, c.in_ok-place.ensures)) c.read_count.result c.read_count.ensures c.in_err-count.was

pub returns-then-too_many : goal.returns-then-too_many
returns-then-too_many c =
    let s = c.args.bytes.now in
    let place = c.in_ok-place.ensures in
    over_most s c.in_ok-place.place (omega (arith, place)) c.read_count.result c.read_count.ensures (omega (arith, place)) c.in_ok-count.count
    c.in_ok-count.was c.if-too_many.true

pub returns : goal.returns
returns c =
    let s = c.args.bytes.now in
    let place = c.in_ok-place.ensures in
    begins s c.in_ok-place.place (omega (arith, place)) c.read_count.result c.read_count.ensures (omega (arith, place)) c.in_ok-count.count
    c.in_ok-count.was c.if-too_many.false c.checked_sub-2.result c.checked_sub-2.ensures
