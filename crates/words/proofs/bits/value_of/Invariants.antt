-- `words::bits::value_of` meets its contract. The invariant: the number of the bits passed, which is below 2 to their count.
-- Assumes nothing.
use mathlib.Core.Path.{◌≡◌}
use Prim.Native.Nat.{◌^◌, ◌≤◌, ◌<◌}
use lib.ListN.{length, take}
use Rattle.words.specs.Bits.{value_of}
use Rattle.words.proofs.bits.value_of.Given as goal

abbrev pub invariant-loop-bit : goal.invariant-loop-bit
invariant-loop-bit l = (l.bit-index ≤ length l.bits) × (l.number ≡ value_of (take l.bit-index l.bits)) × (l.number < 2 ^ l.bit-index)
