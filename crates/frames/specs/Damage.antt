-- THEOREMS: demand 3, the time. Take any frame that is built and turn any of its symbols over.
-- Assumes nothing.
use Rattle.std.specs.Prelude.{◌≡◌, List, ℕ, ◌≤◌}
use Rattle.words.specs.Sums.{weight}
use Rattle.words.specs.Time.{time_is}
use Rattle.frames.specs.Frame.{Contents, GoodContents, time_in, frame_of}
use Rattle.frames.specs.Read.{time_alone}
use Rattle.frames.specs.Turned.{FrameFlags, turned}
use Rattle.frames.specs.Laws.Good.{good_bits}
use Rattle.frames.specs.Laws.Turned.{time_read_lem}

-- If at most nine of the first 52 turn, the time, read alone, is the time sent, with the number that turned.
pub time_borne : (c : Contents) (t : List ℕ) → GoodContents c → FrameFlags t → weight (time_in t) ≤ 9
    → time_alone (turned (frame_of c) t) ≡ time_is c.toi (weight (time_in t))
time_borne c t good flags few = time_read_lem c t (good_bits c good) flags good.time few
