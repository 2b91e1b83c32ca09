-- `words::bits::value_of` meets its contract. The invariant: the number of the bits passed, which is below 2 to their count.
-- Assumes nothing.
use mathlib.Core.Path.{◌≡◌, refl}
use Prim.Native.Nat.{◌+◌, ◌*◌, ◌%◌}
use native.Mathlib.Nat.{pow-suc}
use native.Mathlib.Numerals.{add-one}
use native.Mathlib.Omega.{arith}
use lib.ListN.{take, get_or}
use Rattle.words.specs.Bits.{value_of}
use Rattle.words.proofs.bits.Laws.{value_more}
use Rattle.words.proofs.bits.value_of.Goals as goal

pub loop-bit-init : goal.loop-bit-init
unfolding value_of
loop-bit-init c = (omega arith, refl, omega arith)

pub loop-bit-preserved : goal.loop-bit-preserved
loop-bit-preserved c =
    let l = c.args.bits.now in
    let loop = c.loop-bit in
    let more : value_of (take (loop.bit-index + 1) l) ≡ value_of (take loop.bit-index l) * 2 + get_or l loop.bit-index 0 % 2 = value_more l loop.bit-index (omega arith) in
    (omega arith, omega arith, rw (add-one, pow-suc) (omega arith))
