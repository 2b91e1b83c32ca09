-- `fields::table::Table::write` meets its contract. Assumes nothing.
use Rattle.std.proofs.Common.{◌≡◌, ◌+◌, rules, sym, ◌∙◌, refl, arith}
use Rattle.std.proofs.lemmas.Iterator.{empty_from_Zip}
use Rattle.std.specs.Iterator.Adapters.{zip_first, zip_second}
use Rattle.std.specs.Slice.Iter.{iter_rest}
use Rattle.fields.specs.Table.{bit_count, fields_in}
use Rattle.fields.specs.Laws.Table.{bits_left, usable_left, usable_tables}
use Rattle.fields.specs.Laws.Counts.{in_here, write_step, all_written}
use Rattle.fields.proofs.table.Table.write.Goals as goal

pub loop-field-init : goal.loop-field-init
loop-field-init c =
    let items = c.into_iter-field-iterator.result in
    let fs : iter_rest (zip_first items) ≡ fields_in c.args.self = search rules in
    let zs : iter_rest (zip_second items) ≡ c.args.counts.now = search rules in
    rw (fs, zs) (sym c.requires.0, usable_tables c.args.self, refl, refl, c.requires.1.1, refl)

pub write-requires : goal.write-requires
write-requires c =
    let left = c.in-Some.ensures.steps in
    let fine = in_here left.0 left.1 c.loop-field.at c.loop-field.invariant.4 in
    let ok = usable_left left.0 c.loop-field.invariant.1 in
    let bits = bits_left left.0 in
    search rules

pub overflow_add-at : goal.overflow_add-at
overflow_add-at c = omega (arith, bits_left c.in-Some.ensures.steps.0, c.requires)

pub loop-field-preserved : goal.loop-field-preserved
loop-field-preserved c =
    let i = c.loop-field in
    let left = c.in-Some.ensures.steps in
    let fine = in_here left.0 left.1 i.at i.invariant.4 in
    let ok = usable_left left.0 i.invariant.1 in
    let bits = bits_left left.0 in
    let step = write_step left.0 left.1 i.bits i.at (c.args.from + bit_count (fields_in c.args.self)) (omega arith) (omega (arith, c.requires)) in (
      search rules,
      ok.1,
      search rules,
      omega (arith, bits),
      fine.1,
      search rules,
    )

pub returns : goal.returns
returns c =
    let i = c.loop-field in
    let none = empty_from_Zip _ c.next.new.self _ c.in-None.is c.next.ensures.steps (search rules) in
    sym (all_written _ i.bits i.at _ none.0 i.invariant.3) ∙ i.invariant.5
