-- Building (document 01, "Numbers given on refusal"): 1, 2 (page bits), 3, 6, 9; on a refusal the lent bytes stay.
-- Assumes nothing.
use Rattle.std.specs.Prelude.{Bool, ◌&&◌, List, ℕ, eqb, leb, ℤ, length}
use Rattle.words.specs.Bits.{first_not_bit}
use Rattle.words.specs.Refusal.{TIME, done_if, in_turn, judged, left_by, Answer}
use Rattle.words.specs.Time.{LAST_TOI}
use Rattle.fields.specs.Subframe2.{COUNTS_2, counts_answer}
use Rattle.fields.specs.Pages.{PAGE_BITS, range_answer}
use Rattle.frames.specs.Frame.{Contents, FRAME, frame_of}

-- the contents that a time, counts and page bits are
abbrev pub contents_of : ℕ → List ℤ → List ℕ → Contents
contents_of toi counts page = record { toi = toi; counts = counts; page = page }

-- the counts, the page and the lent frame are as long as they must be
abbrev pub build_lengths : Contents → List ℕ → Bool
build_lengths c out = eqb (length c.counts) COUNTS_2 && (eqb (length c.page) PAGE_BITS && eqb (length out) FRAME)

-- judging contents that are to be built: the time, the counts, the page
abbrev pub contents_answer : Contents → Answer
contents_answer c = in_turn (done_if (leb c.toi LAST_TOI) TIME 0) (in_turn (counts_answer c.counts) (range_answer c.page))

-- building c into lent bytes: the answer
abbrev pub build_answer : Contents → List ℕ → Answer
build_answer c out =
    judged (build_lengths c out) (eqb (first_not_bit c.page) (length c.page)) (first_not_bit c.page) (contents_answer c)

-- the bytes then: the frame of c, or on a refusal as they were
abbrev pub build_bytes : Contents → List ℕ → List ℕ
build_bytes c out = left_by (build_answer c out) (frame_of c) out
