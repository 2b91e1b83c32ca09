-- `fields::pages::counts_of` meets its contract. Assumes nothing.
use Rattle.std.proofs.Common.{◌∙◌, refl, rules, arith, length-take-le}
use Rattle.fields.specs.Laws.Pages.{few_bits}
use Rattle.fields.proofs.pages.Laws.{counts_are}
use Rattle.fields.proofs.pages.counts_of.Goals as goal

pub read-requires : goal.read-requires
read-requires c =
    let count = c.field_count.ensures in
    rw c.table.ensures (length-take-le c.field_count.result _ count.1 ∙ count.0, omega (arith, few_bits c.args.kind, c.requires))

pub returns : goal.returns
returns c = counts_are c.args.kind c.args.bits.now c.field_count.result c.read.new.counts _ c.field_count.ensures.0 (search rules) refl
