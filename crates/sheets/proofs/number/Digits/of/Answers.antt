-- `sheets::number::Digits::of` meets its contract: the digits of what is left, and behind them those that are written. Assumes nothing.
use Rattle.std.proofs.Common.{◌≡◌, refl, ◌∙◌, ℕ, ◌+◌, ◌-◌, ◌/◌, ◌%◌, ◌≤◌, length, ap, append-nil, length-append, length-set, arith, [], ◌∷◌}
use Rattle.sheets.specs.Number.{decimal}
use Rattle.sheets.specs.Laws.Lengths.{decimal_short}
use Rattle.sheets.specs.Laws.Numerals.{decimal_large}
use Rattle.sheets.proofs.number.Laws.{some_digit, digit_put, digits_put}
use Rattle.sheets.proofs.number.Digits.of.Goals as goal

pub loop-rest-init : goal.loop-rest-init
loop-rest-init c = (refl, decimal_short c.args.number c.ranges.number.fits, omega arith, append-nil (decimal c.args.number))

-- a number of more than one digit has one before its last
tenth_fits : (n from : ℕ) → 10 ≤ n → length (decimal n) ≤ from + 1 → (1 ≤ from) × (length (decimal (n / 10)) ≤ from)
tenth_fits n from h few =
    let fits : length (decimal (n / 10)) ≤ from = omega (arith, ap length (decimal_large n h), length-append (decimal (n / 10)) ((48 + n % 10) ∷ []), few) in
    (omega (arith, fits, some_digit (n / 10)), fits)

pub overflow_sub-from : goal.overflow_sub-from
overflow_sub-from c =
    let turn = c.loop-rest in
    (tenth_fits turn.rest turn.from c.loop-rest-test.true turn.invariant.1).0

pub loop-rest-preserved : goal.loop-rest-preserved
loop-rest-preserved c =
    let turn = c.loop-rest in
    let tenth = tenth_fits turn.rest turn.from c.loop-rest-test.true turn.invariant.1 in
    let back : turn.from - 1 + 1 ≡ turn.from = omega (arith, tenth.0) in (
      length-set turn.bytes turn.from (48 + turn.rest % 10) ∙ turn.invariant.0,
      omega (arith, back, tenth.1),
      omega (arith, turn.invariant.2),
      rw back (digit_put turn.rest turn.from turn.bytes (decimal c.args.number) (omega (arith, turn.invariant.0, turn.invariant.2)) turn.invariant.3 c.loop-rest-test.true),
    )

pub returns : goal.returns
returns c =
    let turn = c.loop-rest in
    digits_put turn.rest turn.from turn.bytes (decimal c.args.number) (omega (arith, turn.invariant.0, turn.invariant.2)) turn.invariant.3 c.loop-rest-test.false
