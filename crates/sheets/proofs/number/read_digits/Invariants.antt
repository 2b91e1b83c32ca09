-- `sheets::number::read_digits` meets its contract. Assumes nothing.
use Rattle.std.proofs.Common.{◌≡◌, ◌≤◌, drop}
use Rattle.sheets.specs.Laws.Steps.{BEYOND, digits_read}
use Rattle.sheets.proofs.number.Laws.{digits_from}
use Rattle.sheets.proofs.number.read_digits.Given as goal

-- what is left to read gives what the whole text gives
abbrev pub invariant-loop-digit : goal.invariant-loop-digit
invariant-loop-digit l = (l.number ≤ BEYOND) × (digits_from l.number (drop l.digit-index l.text) ≡ digits_read l.text)
