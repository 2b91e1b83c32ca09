-- The counts that are read and those that are left are all. Assumes nothing.
use Rattle.std.proofs.Common.{◌≡◌, true, ◌++◌, ◌+◌, length, take, drop}
use Rattle.fields.specs.Table.{fields_in, bit_count, all_usable}
use Rattle.fields.specs.Counts.{counts_in}
use Rattle.fields.proofs.table.Table.read.Given as goal

abbrev pub invariant-loop-k : goal.invariant-loop-k
invariant-loop-k l =
    let all = fields_in l.fn.self in
    let fs = drop l.k all in
    (length l.counts ≡ length l.initial.counts) × (all_usable fs ≡ true) × (l.at + bit_count fs ≡ l.from + bit_count all)
    × (take l.k l.counts ++ counts_in fs (drop l.at l.bits) ≡ counts_in all (drop l.from l.bits))
