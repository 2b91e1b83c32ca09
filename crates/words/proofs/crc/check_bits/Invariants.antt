-- `words::crc::check_bits` meets its contract. The invariant: the zeros still to come give the check bits.
-- Assumes nothing.
use mathlib.Core.Path.{◌≡◌}
use Prim.Native.Nat.{◌-◌, ◌^◌, ◌<◌}
use lib.ListN.{replicate}
use Rattle.words.specs.Crc.{remainder_from, check_of}
use Rattle.words.proofs.crc.check_bits.Given as goal

abbrev pub invariant-loop : goal.invariant-loop
invariant-loop l =
    (l.register < 2 ^ 24) × (remainder_from l.register (replicate (24 - l.counter) 0) ≡ check_of l.bits)
