-- `words::crc::remainder` meets its contract. The invariant: the rest of the pass from here is the whole pass.
-- Assumes nothing.
use mathlib.Core.Path.{sym, ap, ◌∙◌}
use Prim.Native.Nat.{ℕ, ◌+◌}
use lib.ListN.{drop, get_or}
use Rattle.words.specs.Crc.{remainder_from}
use Rattle.words.specs.Laws.Crc.{fed_lt}
use Rattle.words.proofs.crc.Laws.{bit_fed}
use Rattle.words.proofs.crc.remainder.Goals as goal

pub loop-bit-preserved : goal.loop-bit-preserved
loop-bit-preserved c =
    let l = c.args.bits.now in
    let loop = c.loop-bit in (
      rw c.feed-register.ensures (fed_lt loop.register (get_or l loop.bit-index 0) loop.invariant.0),
      ap (λ (r : ℕ). remainder_from r (drop (loop.bit-index + 1) l)) c.feed-register.ensures
          ∙ sym (bit_fed l loop.bit-index loop.register c.loop-bit-test.true) ∙ loop.invariant.1,
    )
