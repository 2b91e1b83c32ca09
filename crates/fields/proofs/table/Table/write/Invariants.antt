-- What is left to write gives the bytes that are asked for. Assumes nothing.
use Rattle.std.proofs.Common.{◌≡◌, true, ◌++◌, ◌+◌, length, take, drop}
use Rattle.std.specs.Iterator.Adapters.{zip_first, zip_second}
use Rattle.std.specs.Slice.Iter.{iter_rest}
use Rattle.fields.specs.Table.{fields_in, bit_count, all_usable}
use Rattle.fields.specs.Counts.{bits_of_counts, first_out}
use Rattle.fields.proofs.table.Table.write.Given as goal

abbrev pub invariant-loop-field : goal.invariant-loop-field
invariant-loop-field l =
    let fs = iter_rest (zip_first l.field-iterator) in
    let zs = iter_rest (zip_second l.field-iterator) in
    let end = l.from + bit_count (fields_in l.fn.self) in
    (length fs ≡ length zs) × (all_usable fs ≡ true) × (length l.bits ≡ length l.initial.bits) × (l.at + bit_count fs ≡ end)
    × (first_out l.at fs zs ≡ 0)
    × (take l.at l.bits ++ (bits_of_counts fs zs ++ drop end l.bits)
    ≡ take l.from l.initial.bits ++ (bits_of_counts (fields_in l.fn.self) l.counts ++ drop end l.initial.bits))
