-- `words::crc::remainder` meets its contract. The invariant: the rest of the pass from here is the whole pass.
-- Assumes nothing.
use mathlib.Core.Path.{◌≡◌}
use Prim.Native.Nat.{◌^◌, ◌<◌}
use lib.ListN.{drop}
use Rattle.words.specs.Crc.{remainder_from, remainder_of}
use Rattle.words.proofs.crc.remainder.Given as goal

abbrev pub invariant-loop-bit : goal.invariant-loop-bit
invariant-loop-bit l =
    (l.register < 2 ^ 24) × (remainder_from l.register (drop l.bit-index l.bits) ≡ remainder_of l.bits)
