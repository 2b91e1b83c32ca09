-- `sheets::number::read_digits` meets its contract. Assumes nothing.
use Rattle.std.proofs.Common.{sym, ap, ◌∙◌, ℕ, ◌+◌, drop, arith}
use Rattle.sheets.proofs.number.Laws.{digits_from, digit_below, digit_above, digit_here, digits_end}
use Rattle.sheets.proofs.number.read_digits.Goals as goal

pub returns-in_default : goal.returns-in_default
returns-in_default c =
    let turn = c.loop-digit in
    sym (digit_below c.args.text.now turn.digit-index turn.number (omega arith) (omega arith)) ∙ turn.invariant.1

pub returns-in_default-2 : goal.returns-in_default-2
returns-in_default-2 c =
    let turn = c.loop-digit in
    sym (digit_above c.args.text.now turn.digit-index turn.number (omega arith) (omega arith)) ∙ turn.invariant.1

pub loop-digit-preserved : goal.loop-digit-preserved
loop-digit-preserved c =
    let text = c.args.text.now in
    let turn = c.loop-digit in (
      omega (arith, c.with_digit-number.ensures),
      ap (λ (n : ℕ). digits_from n (drop (turn.digit-index + 1) text)) c.with_digit-number.ensures
          ∙ digit_here text turn.digit-index turn.number (omega arith) (omega arith) (omega arith)
          ∙ turn.invariant.1,
    )

pub returns : goal.returns
returns c =
    let turn = c.loop-digit in
    sym (digits_end c.args.text.now turn.digit-index turn.number (omega arith) turn.invariant.0) ∙ turn.invariant.1
