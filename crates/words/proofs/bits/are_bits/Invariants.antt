-- `words::bits::are_bits` meets its contract. The invariant: what was seen tells whether a byte that is no bit was passed. Assumes nothing.
use Rattle.words.proofs.bits.Laws.{Seen}
use Rattle.words.proofs.bits.are_bits.Given as goal

abbrev pub invariant-loop-byte : goal.invariant-loop-byte
invariant-loop-byte l = Seen l.bytes l.seen l.byte-index
