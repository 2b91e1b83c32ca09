-- The rest of the pass over the sums now gives what the whole pass gives over the sums at entry.
use Rattle.std.proofs.Common.{◌≡◌, drop}
use Rattle.tables.specs.Coordinates.{ones, added}
use Rattle.tables.proofs.pass.add_ones.Given as goal

abbrev pub invariant-loop-row : goal.invariant-loop-row
invariant-loop-row l =
    added (ones (drop l.row-index l.table)) l.symbols l.sums ≡ added (ones l.table) l.symbols l.fn.sums
