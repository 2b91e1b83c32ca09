-- `words::bits::put_bits` meets its contract. The invariant: what is left to put gives, on the bytes as they are, the bytes that are asked for.
-- Assumes nothing.
use mathlib.Core.Path.{◌≡◌}
use lib.ListN.{length}
use lib.Seq.{sets}
use Rattle.words.specs.Bits.{bits_of}
use Rattle.words.proofs.bits.put_bits.Given as goal

abbrev pub invariant-loop-left : goal.invariant-loop-left
invariant-loop-left l =
    (length l.bytes ≡ length l.initial.bytes) × (sets l.bytes l.at (bits_of l.left l.rest) ≡ sets l.initial.bytes l.at (bits_of l.width l.number))
