-- What the functions below the public ones give, and how the public ones are made of it.
-- Assumes nothing.
use Rattle.std.specs.Prelude.{◌≡◌, refl, Result, Ok, Err, List, ◌++◌, ℕ, ℤ, take}
use Rattle.words.specs.Refusal.{Answer, given_by, in_turn}
use Rattle.words.specs.declared.refusal.Refusal.{Refusal}
use Rattle.words.specs.Time.{time_word}
use Rattle.words.specs.declared.time.Time.{Time}
use Rattle.tables.specs.Matrix.{matrix_of}
use Rattle.tables.specs.declared.matrix.Subframe.{Subframe}
use Rattle.tables.specs.declared.matrix.Subframe.TheVariants.{Two, Three}
use Rattle.parity.specs.Equations.{data_of, met_answer}
use Rattle.parity.specs.Order.{interleaved}
use Rattle.fields.specs.Table.{fields_in}
use Rattle.fields.specs.Counts.{counts_in}
use Rattle.fields.specs.declared.table.Table.TheVariants.{Subframe2}
use Rattle.frames.specs.Frame.{bits_before, subframe_of}
use Rattle.frames.specs.Read.{check_bits_answer, subframe_answer, frame_is}
use Rattle.frames.specs.declared.read.Frame.{Frame}

-- judging a block: its equations, then its check bits
abbrev pub block_answer : Subframe → List ℕ → Answer
block_answer s block = in_turn (met_answer s block) (check_bits_answer s (data_of (matrix_of s) block))

-- the counts of the block of subframe 2
abbrev pub counts_from : List ℕ → Result (List ℤ) Refusal
counts_from two = given_by (subframe_answer Two two) (counts_in (fields_in Subframe2) (take (bits_before Two) two))

-- the page of the block of subframe 3
abbrev pub page_from : List ℕ → Result (List ℕ) Refusal
page_from three = given_by (subframe_answer Three three) (take (bits_before Three) three)

-- the frame that a time and both blocks give
abbrev pub frame_from : Time → List ℕ → List ℕ → Result Frame Refusal
frame_from time two three =
    given_by (in_turn (subframe_answer Two two) (subframe_answer Three three))
    (frame_is (record { toi = time.toi; counts = counts_in (fields_in Subframe2) (take (bits_before Two) two); page = take (bits_before Three) three })
    time.corrected)

-- the symbols of a time and of the bits of both subframes
abbrev pub symbols_from : ℕ → List ℕ → List ℕ → List ℕ
symbols_from toi bits page = time_word toi ++ interleaved (subframe_of Two bits ++ subframe_of Three page)

-- three answers in turn
pub turns : (a b c : Answer) → in_turn (in_turn a b) c ≡ in_turn a (in_turn b c)
turns (Ok _) b c = refl
turns (Err r) b c = refl
