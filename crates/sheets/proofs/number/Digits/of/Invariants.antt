-- `sheets::number::Digits::of` meets its contract: the digits of what is left, and behind them those that are written. Assumes nothing.
use Rattle.std.proofs.Common.{◌≡◌, ◌+◌, ◌≤◌, ◌++◌, length, drop}
use Rattle.sheets.specs.Number.{decimal}
use Rattle.sheets.proofs.number.Digits.of.Given as goal

abbrev pub invariant-loop-rest : goal.invariant-loop-rest
invariant-loop-rest l =
    (length l.bytes ≡ 20) × (length (decimal l.rest) ≤ l.from + 1) × (l.from ≤ 19) × (decimal l.rest ++ drop (l.from + 1) l.bytes ≡ decimal l.number)

abbrev pub decreases-loop-rest : goal.decreases-loop-rest
decreases-loop-rest l = l.rest
