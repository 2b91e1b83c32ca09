-- Reading (document 01, "Numbers given on refusal"): in a frame 1, 2, then 3, then 4 5 6, then 7 8 9, lowest place first; of the time and
-- of each subframe alone 1, 2 over the frame, then only its own.
-- Assumes nothing.
use Rattle.std.specs.Prelude.{Result, Ok, Err, List, [], ◌∷◌, ℕ, ℤ, pos, eqb, length, take}
use Rattle.words.specs.Bits.{first_not_bit}
use Rattle.words.specs.Crc.{remainder_of}
use Rattle.words.specs.Refusal.{Answer, Done, CHECK_2, CHECK_3, answer_of, given_by, done_if, in_turn, judged}
use Rattle.words.specs.Time.{time_read, toi_read, corrected_read}
use Rattle.words.specs.declared.refusal.Refusal.{Refusal}
use Rattle.words.specs.declared.time.Time.{Time}
use Rattle.tables.specs.Matrix.{matrix_of}
use Rattle.tables.specs.declared.matrix.Subframe.{Subframe}
use Rattle.tables.specs.declared.matrix.Subframe.TheVariants.{Two, Three}
use Rattle.parity.specs.Equations.{data_of, met_answer}
use Rattle.fields.specs.Table.{fields_in}
use Rattle.fields.specs.Counts.{counts_in}
use Rattle.fields.specs.Subframe2.{fields_answer}
use Rattle.fields.specs.Pages.{range_answer}
use Rattle.fields.specs.declared.table.Table.TheVariants.{Subframe2}
use Rattle.frames.specs.Frame.{Contents, FRAME, time_in, subframe_in, bits_before, bits_in}
use Rattle.frames.specs.declared.read.Frame.{Frame}

-- the number for check bits that differ: 5 for subframe 2, 8 for subframe 3
abbrev pub check_number : Subframe → ℕ
check_number Two = CHECK_2
check_number Three = CHECK_3

-- judging check bits
abbrev pub check_bits_answer : Subframe → List ℕ → Answer
check_bits_answer s symbols = done_if (eqb (remainder_of symbols) 0) (check_number s) 0

-- judging fields: 6 for subframe 2, 9 for subframe 3
abbrev pub ranges_answer : Subframe → List ℕ → Answer
ranges_answer Two bits = fields_answer bits
ranges_answer Three bits = range_answer bits

-- judging the symbols of a subframe: its equations, its check bits, its fields
abbrev pub subframe_answer : Subframe → List ℕ → Answer
subframe_answer s block =
    in_turn (met_answer s block) (in_turn (check_bits_answer s (data_of (matrix_of s) block)) (ranges_answer s (take (bits_before s) block)))

-- judging what is lent as a frame: 1, 2 over it, and then what else is answered
abbrev pub frame_judged : List ℕ → Answer → Answer
frame_judged f answer = judged (eqb (length f) FRAME) (eqb (first_not_bit f) (length f)) (first_not_bit f) answer

-- judging a frame
abbrev pub frame_answer : List ℕ → Answer
frame_answer f =
    frame_judged f
    (in_turn (answer_of (time_read (time_in f)))
    (in_turn (subframe_answer Two (subframe_in Two f)) (subframe_answer Three (subframe_in Three f))))

-- what stands in a frame: the time that is within nine, the counts, the page bits
unfoldable pub contents_in : List ℕ → Contents
contents_in f =
    record { toi = toi_read (time_read (time_in f)); counts = counts_in (fields_in Subframe2) (bits_in Two f); page = bits_in Three f }

-- what reading gives: contents, with the number of symbols corrected
abbrev pub frame_is : Contents → ℕ → Frame
frame_is c corrected = record { toi = c.toi; corrected = corrected; counts = c.counts; page = c.page }

-- reading a frame
abbrev pub frame_read : List ℕ → Result Frame Refusal
frame_read f = given_by (frame_answer f) (frame_is (contents_in f) (corrected_read (time_read (time_in f))))

-- what was read of a frame: its time and counts, its page, and how many symbols were corrected; nothing where it was refused
abbrev pub frame_numbers : Result Frame Refusal → List ℤ
frame_numbers (Ok x) = pos x.toi ∷ x.counts
frame_numbers (Err r) = []

abbrev pub frame_page : Result Frame Refusal → List ℕ
frame_page (Ok x) = x.page
frame_page (Err r) = []

abbrev pub frame_corrected : Result Frame Refusal → ℕ
frame_corrected (Ok x) = x.corrected
frame_corrected (Err r) = 0

-- reading the time alone
abbrev pub time_alone : List ℕ → Result Time Refusal
time_alone f = in_turn (frame_judged f Done) (time_read (time_in f))

-- toi and how many symbols were corrected, of a time that was read; nothing where it was refused
abbrev pub time_numbers : Result Time Refusal → List ℕ
time_numbers (Ok t) = t.toi ∷ t.corrected ∷ []
time_numbers (Err r) = []

-- reading subframe 2 alone
abbrev pub subframe2_alone : List ℕ → Result (List ℤ) Refusal
subframe2_alone f =
    given_by (frame_judged f (subframe_answer Two (subframe_in Two f))) (counts_in (fields_in Subframe2) (bits_in Two f))

-- reading subframe 3 alone
abbrev pub subframe3_alone : List ℕ → Result (List ℕ) Refusal
subframe3_alone f = given_by (frame_judged f (subframe_answer Three (subframe_in Three f))) (bits_in Three f)

-- the answer of reading a subframe alone
abbrev pub alone_answer : Subframe → List ℕ → Answer
alone_answer Two f = answer_of (subframe2_alone f)
alone_answer Three f = answer_of (subframe3_alone f)
