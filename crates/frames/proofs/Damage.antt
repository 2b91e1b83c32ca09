-- THEOREMS: demand 3, the subframes. Take any frame that is built and turn any of its symbols over.
-- Assumes nothing.
use Rattle.std.specs.Prelude.{List, ℕ}
use Rattle.words.specs.Unchanged.{Refuses}
use Rattle.tables.specs.declared.matrix.Subframe.{Subframe}
use Rattle.tables.specs.declared.matrix.Subframe.TheVariants.{Two, Three}
use Rattle.frames.specs.Frame.{Contents, GoodContents, data_in, frame_of}
use Rattle.frames.specs.Read.{subframe2_alone, subframe3_alone, alone_answer}
use Rattle.frames.specs.Turned.{FrameFlags, turned, SomeTurned, NamedDamage}
use Rattle.frames.specs.Laws.Good.{good_bits}
use Rattle.frames.proofs.Laws.Turned.{subframe_noticed}
use Rattle.words.specs.Refusal.{answer_of}

-- If any symbol of a subframe turns, and the turned ones among its data symbols are none, two, an odd number, or all within 24
-- neighbouring places of its order before interleaving, that subframe, read alone, is refused, whatever else is turned.
pub noticed : (s : Subframe) (c : Contents) (t : List ℕ) → GoodContents c → FrameFlags t → SomeTurned s t → NamedDamage (data_in s t)
    → Refuses (alone_answer s (turned (frame_of c) t))
noticed s c t good flags some how = subframe_noticed c t (good_bits c good) flags s some how

-- So it is of subframe 2.
pub noticed_2 : (c : Contents) (t : List ℕ) → GoodContents c → FrameFlags t → SomeTurned Two t → NamedDamage (data_in Two t)
    → Refuses (answer_of (subframe2_alone (turned (frame_of c) t)))
noticed_2 c t good flags some how = noticed Two c t good flags some how

-- And of subframe 3.
pub noticed_3 : (c : Contents) (t : List ℕ) → GoodContents c → FrameFlags t → SomeTurned Three t → NamedDamage (data_in Three t)
    → Refuses (answer_of (subframe3_alone (turned (frame_of c) t)))
noticed_3 c t good flags some how = noticed Three c t good flags some how
