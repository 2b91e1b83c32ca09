-- `fields::pages::Kind::field_count` meets its contract. Assumes nothing.
use Rattle.std.proofs.Common.{arith}
use Rattle.fields.specs.Laws.Pages.{few_counts}
use Rattle.fields.proofs.pages.Kind.field_count.Goals as goal

pub returns : goal.returns
returns c =
    let count = rw c.table.ensures at c.field_count.ensures in
    (count, omega (arith, count, few_counts c.args.self))
