-- `words::crc::check_bits` meets its contract. The invariant: the zeros still to come give the check bits.
-- Assumes nothing.
use mathlib.Core.Path.{sym, ap, ◌∙◌}
use Prim.Native.Nat.{ℕ, ◌+◌, ◌-◌}
use lib.Dec.{lit<}
use lib.ListN.{replicate}
use Rattle.words.specs.Crc.{remainder_from}
use Rattle.words.specs.Laws.Crc.{fed_lt, remainder_from_lt}
use Rattle.words.proofs.crc.Laws.{zero_fed, check_is}
use Rattle.words.proofs.crc.check_bits.Goals as goal

pub loop-init : goal.loop-init
loop-init c =
    let l = c.args.bits.now in (
      rw c.remainder-register.ensures (remainder_from_lt 0 l (lit< tt)),
      ap (λ (r : ℕ). remainder_from r (replicate 24 0)) c.remainder-register.ensures ∙ check_is l,
    )

pub loop-preserved : goal.loop-preserved
loop-preserved c =
    let loop = c.loop in (
      rw c.feed-register.ensures (fed_lt loop.register 0 loop.invariant.0),
      ap (λ (r : ℕ). remainder_from r (replicate (24 - (loop.counter + 1)) 0)) c.feed-register.ensures
          ∙ sym (zero_fed loop.register loop.counter c.loop-test.true) ∙ loop.invariant.1,
    )
