-- `words::bits::are_bits` meets its contract. The invariant: what was seen tells whether a byte that is no bit was passed. Assumes nothing.
use native.Mathlib.Omega.{arith}
use Rattle.words.proofs.bits.Laws.{seen_next, seen_all}
use Rattle.words.proofs.bits.are_bits.Goals as goal

pub loop-byte-preserved : goal.loop-byte-preserved
loop-byte-preserved c =
    let loop = c.loop-byte in
    seen_next c.args.bytes.now loop.seen loop.byte-index c.loop-byte-test.true loop.invariant

pub returns : goal.returns
returns c =
    let loop = c.loop-byte in
    seen_all c.args.bytes.now loop.seen loop.byte-index (omega arith) loop.invariant
