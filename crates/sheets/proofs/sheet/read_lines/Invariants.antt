-- `sheets::sheet::read_lines` meets its contract. The loop keeps how far reading has come. Assumes nothing.
use Rattle.std.proofs.Common.{◌≡◌, ◌≤◌, length, drop}
use Rattle.std.specs.Slice.Iter.{split_inclusive_rest}
use Rattle.sheets.proofs.sheet.Laws.{Progress}
use Rattle.sheets.proofs.sheet.read_lines.Given as goal

abbrev pub invariant-loop-ended : goal.invariant-loop-ended
invariant-loop-ended l =
    Progress l.lines l.at l.found × (l.at ≤ length l.lines) × (split_inclusive_rest l.ended-iterator ≡ drop l.at l.lines)
