-- `words::bits::largest` meets its contract. Assumes nothing.
use Rattle.words.proofs.bits.Laws.{all_ones}
use Rattle.words.proofs.bits.largest.Goals as goal

pub returns : goal.returns
returns c = all_ones c.args.width c.requires.1
