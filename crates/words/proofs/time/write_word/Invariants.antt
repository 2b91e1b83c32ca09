-- `words::time::write_word` meets its contract. The invariant: what is written behind the first, and what is still to leave the register, is the
-- word's rest. Assumes nothing.
use mathlib.Core.Path.{◌≡◌}
use mathlib.Core.List.{◌++◌, map}
use Prim.Native.Nat.{◌-◌, ◌%◌}
use lib.ListN.{length, take}
use Rattle.words.specs.Bits.{bits_of}
use Rattle.words.specs.Sums.{add2}
use Rattle.words.specs.Time.{shifted_out, top_bit}
use Rattle.words.proofs.time.write_word.Given as goal

abbrev pub invariant-loop-symbol : goal.invariant-loop-symbol
invariant-loop-symbol l =
    (length l.symbol-items ≡ 51)
    × (take l.symbol-index l.symbol-items ++ map (add2 l.top) (shifted_out (51 - l.symbol-index) (bits_of 8 l.register))
    ≡ map (add2 (top_bit l.toi)) (shifted_out 51 (bits_of 8 (l.toi % 256))))
