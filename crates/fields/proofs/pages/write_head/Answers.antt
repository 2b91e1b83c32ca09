-- `fields::pages::write_head` meets its contract. Assumes nothing.
use Rattle.fields.proofs.pages.Laws.{head_put}
use Rattle.fields.proofs.pages.write_head.Goals as goal

pub returns : goal.returns
returns c =
    head_put c.args.bits.now c.put_number.new.bytes c.put_number-2.new.bytes
    c.args.prn c.args.number c.requires.1 c.ranges.prn.fits c.requires.0
    (rw c.from.ensures at c.put_number.ensures.1) (rw c.from-2.ensures at c.put_number-2.ensures.1)
