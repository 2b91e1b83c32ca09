-- `fields::pages::carried_of` meets its contract. Assumes nothing.
use Rattle.std.proofs.Common.{refl}
use Rattle.fields.proofs.pages.Laws.{carried_are}
use Rattle.fields.proofs.pages.carried_of.Goals as goal

pub returns : goal.returns
returns c = carried_are c.args.kind c.args.bits.now c.bit_count-end.result c.copy_from_slice.new.self _ c.bit_count-end.ensures.0 c.requires c.copy_from_slice.ensures.after refl
