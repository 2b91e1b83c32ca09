-- `words::time::nearest_time` meets its contract. The invariant: the word is that of the time, and the search from here is the whole search.
-- The next word comes by the table's rule, one computed test. Assumes nothing.
use mathlib.Core.Path.{◌≡◌}
use Prim.Native.Nat.{◌-◌}
use Rattle.words.specs.Bits.{value_of, bits_of}
use Rattle.words.specs.Time.{time_word, nearest_time}
use Rattle.words.proofs.time.nearest_time.Given as goal

abbrev pub invariant-loop-toi : goal.invariant-loop-toi
invariant-loop-toi l =
    (l.word ≡ value_of (time_word l.toi)) × (nearest_time (400 - l.toi) l.toi (bits_of 52 l.symbols) ≡ nearest_time 400 0 (bits_of 52 l.symbols))
