-- `fields::table::Field::read` meets its contract. Assumes nothing.
use Prim.Native.Nat.{◌^◌, ◌<◌}
use mathlib.Core.Path.{ap, ◌∙◌}
use borrow.Author.Rules.{sfits_of}
use lib.IntN.{pos}
use mir.Syntax.{w64}
use mir.ValLaws.{to_z_pos}
use Rattle.fields.proofs.counts.Laws.{taken_number, taken_small}
use Rattle.fields.proofs.table.Field.read.Goals as goal

small : (c : goal.After-take_number) → c.take_number.result < 2 ^ 63
small c = rw c.take_number.ensures (taken_small c.args.self c.args.bits.now c.args.at c.requires)

pub overflow_cast-result : goal.overflow_cast-result
overflow_cast-result c = sfits_of (small c)

pub returns-else-self : goal.returns-else-self
returns-else-self c =
    to_z_pos w64 c.take_number.result (small c) ∙ ap pos c.take_number.ensures
    ∙ taken_number c.args.self c.args.bits.now c.args.at c.requires c.if-self.false
