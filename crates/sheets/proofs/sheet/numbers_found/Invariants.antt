-- `sheets::sheet::numbers_found` meets its contract: the numbers before place k are written. Assumes nothing.
use Rattle.std.proofs.Common.{◌≡◌, ℕ, ◌<◌, None, pos, length, get_or}
use Rattle.std.specs.Option.{unwrap_or}
use Rattle.sheets.proofs.sheet.numbers_found.Given as goal

abbrev pub invariant-loop-k : goal.invariant-loop-k
invariant-loop-k l =
    (length l.numbers ≡ 34) × ((i : ℕ) → i < l.k → get_or l.numbers i (pos 0) ≡ unwrap_or (get_or l.found i None) (pos 0))
