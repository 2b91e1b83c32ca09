-- Of the fields and counts that are left, the first out of range is the first of all. Assumes nothing.
use Rattle.std.proofs.Common.{◌≡◌, ◌+◌, length}
use Rattle.std.specs.Iterator.Adapters.{zip_first, zip_second}
use Rattle.std.specs.Slice.Iter.{iter_rest}
use Rattle.fields.specs.Table.{fields_in, bit_count}
use Rattle.fields.specs.Counts.{first_out}
use Rattle.fields.proofs.table.Table.judge.Given as goal

abbrev pub invariant-loop-field : goal.invariant-loop-field
invariant-loop-field l =
    let fs = iter_rest (zip_first l.field-iterator) in
    let zs = iter_rest (zip_second l.field-iterator) in
    (length fs ≡ length zs) × (l.at + bit_count fs ≡ l.from + bit_count (fields_in l.fn.self))
    × (first_out l.at fs zs ≡ first_out l.from (fields_in l.fn.self) l.counts)
