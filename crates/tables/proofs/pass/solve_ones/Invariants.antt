-- The rest of the substitution over the unknowns now gives what the whole gives over the sums at entry.
use Rattle.std.proofs.Common.{◌≡◌, drop}
use Rattle.tables.specs.Coordinates.{ones, solved}
use Rattle.tables.proofs.pass.solve_ones.Given as goal

abbrev pub invariant-loop-row : goal.invariant-loop-row
invariant-loop-row l = solved (ones (drop l.row-index l.table)) l.unknowns ≡ solved (ones l.table) l.fn.unknowns
