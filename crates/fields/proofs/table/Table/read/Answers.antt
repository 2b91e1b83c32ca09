-- `fields::table::Table::read` meets its contract. Assumes nothing.
use Rattle.std.proofs.Common.{rules, length, sym, ap, ◌∙◌, arith, length-set}
use Rattle.fields.specs.Table.{fields_in}
use Rattle.fields.specs.Laws.Table.{open_at, bits_left, usable_left, usable_few, usable_tables}
use Rattle.fields.specs.Laws.Counts.{counts_step, counts_done}
use Rattle.fields.proofs.table.Table.read.Goals as goal

pub loop-k-init : goal.loop-k-init
loop-k-init c = (search rules, usable_tables c.args.self, search rules, search rules)

pub read-requires : goal.read-requires
read-requires c =
    let left = open_at (fields_in c.args.self) c.loop-k.k (search rules) in
    rw c.fields_of-field-items.ensures (usable_few _ (usable_left left c.loop-k.invariant.1).0)

pub overflow_add-at : goal.overflow_add-at
overflow_add-at c =
    let left = open_at (fields_in c.args.self) c.loop-k.k (search rules) in
    let bits = bits_left left in
    rw c.fields_of-field-items.ensures (omega (arith, bits, c.requires, c.well_formed))

pub loop-k-preserved : goal.loop-k-preserved
loop-k-preserved c =
    let i = c.loop-k in
    let left = open_at (fields_in c.args.self) i.k (search rules) in
    let bits = bits_left left in
    let step = counts_step left i.k i.at c.args.bits.now i.counts c.read.result (omega (arith, ap length c.fields_of-field-items.ensures, c.requires)) (search rules) in
    rw c.fields_of-field-items.ensures (simp length-set (omega arith), (usable_left left i.invariant.1).1, omega (arith, bits), search rules)

pub returns : goal.returns
returns c =
    let all = counts_done (fields_in c.args.self) _ c.loop-k.counts c.loop-k.k (search rules) (search rules) in
    sym all ∙ c.loop-k.invariant.3
