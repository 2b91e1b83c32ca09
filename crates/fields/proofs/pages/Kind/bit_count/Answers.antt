-- `fields::pages::Kind::bit_count` meets its contract. Assumes nothing.
use Rattle.std.proofs.Common.{arith}
use Rattle.fields.specs.Laws.Pages.{few_bits}
use Rattle.fields.proofs.pages.Kind.bit_count.Goals as goal

pub returns : goal.returns
returns c =
    let count = rw c.table.ensures at c.bit_count.ensures in
    (count, omega (arith, count, few_bits c.args.self))
