-- What reading does step by step, over plain lists: how the answers of the steps make up those of the definitions.
-- Assumes nothing.
use mathlib.Core.Path.{◌≡◌, refl, sym, ap, ap₂, ◌∙◌}
use mathlib.Core.List.{List}
use Rattle.std.specs.Prelude.{ℤ}
use Prim.Native.Nat.{ℕ, ◌+◌, ◌≤◌}
use native.Mathlib.Omega.{arith}
use lib.ListN.{length, take}
use lib.Seq.{length-take-le}
use Rattle.words.specs.Bits.{IsBits}
use Rattle.words.specs.Refusal.{in_turn, number_of, Answer, Done, answer_of, given_by}
use Rattle.words.specs.Time.{time_read, toi_read, corrected_read}
use Rattle.words.specs.Laws.Digits.{bits_take}
use Rattle.words.specs.Laws.Turns.{Answered, done, refused, answered, both_done, not_done, given_ok}
use Rattle.words.specs.declared.refusal.Refusal.{Refusal}
use Rattle.words.specs.declared.time.Time.{Time}
use Rattle.tables.specs.Matrix.{matrix_of}
use Rattle.tables.specs.declared.matrix.Subframe.{Subframe}
use Rattle.tables.specs.declared.matrix.Subframe.TheVariants.{Two, Three}
use Rattle.parity.specs.Equations.{data_of, met_answer}
use Rattle.parity.specs.Judged.{done_met}
use Rattle.fields.specs.Table.{fields_in}
use Rattle.fields.specs.Counts.{counts_in}
use Rattle.fields.specs.Subframe2.{BITS_2, fields_answer, fields_read}
use Rattle.fields.specs.Pages.{PAGE_BITS, range_answer}
use Rattle.fields.specs.Laws.Answers.{judged_right}
use Rattle.fields.specs.declared.table.Table.TheVariants.{Subframe2}
use Rattle.frames.specs.Frame.{FRAME, time_in, subframe_in, bits_before, bits_in}
use Rattle.frames.specs.Read.{check_bits_answer, ranges_answer, subframe_answer, frame_judged, contents_in, frame_is, frame_read, time_alone}
use Rattle.frames.specs.Laws.Blocks.{check_fits}
use Rattle.frames.specs.Laws.Reading.{lent_on, lent_done}
use Rattle.frames.specs.Laws.Steps.{block_answer, counts_from, page_from, frame_from, turns}
use Rattle.std.specs.Prelude.{Ok, Result}

-- ---- a block

-- a subframe is judged by its block, and then by its fields
pub block_then : (s : Subframe) (y : List ℕ) (a : Answer) → block_answer s y ≡ a
    → subframe_answer s y ≡ in_turn a (ranges_answer s (take (bits_before s) y))
block_then s y a e =
    let ranges = ranges_answer s (take (bits_before s) y) in
    sym (turns (met_answer s y) (check_bits_answer s (data_of (matrix_of s) y)) ranges) ∙ ap (λ (b : Answer). in_turn b ranges) e

-- a block that is done has its length and is bits
module _ (s : Subframe) (y : List ℕ) (e : block_answer s y ≡ Done) where
  met : (length y ≡ (matrix_of s).equations + (matrix_of s).equations) × IsBits y
  met =
      let all = done_met s y (ap number_of (both_done (met_answer s y) (check_bits_answer s (data_of (matrix_of s) y)) e).0) in
      (all.0, all.1)

  pub done_long : bits_before s ≤ length y
  done_long = omega (arith, met.0, check_fits s)

  pub done_length : length (take (bits_before s) y) ≡ bits_before s
  done_length = length-take-le (bits_before s) y done_long

  pub done_bits : IsBits (take (bits_before s) y)
  done_bits = bits_take (bits_before s) y met.1

pub counts_done : (y : List ℕ) → block_answer Two y ≡ Done → fields_read (take BITS_2 y) ≡ counts_from y
counts_done y e =
    let l = take BITS_2 y in
    ap (λ (a : Answer). given_by a (counts_in (fields_in Subframe2) l))
    (judged_right BITS_2 (length l) l (fields_answer l) (done_length Two y e) (done_bits Two y e)
    ∙ sym (block_then Two y Done e))

pub page_done : (y : List ℕ) → block_answer Three y ≡ Done → given_by (range_answer (take PAGE_BITS y)) (take PAGE_BITS y) ≡ page_from y
page_done y e = sym (ap (λ (a : Answer). given_by a (take PAGE_BITS y)) (block_then Three y Done e))

-- the frame of a time and of blocks whose counts and page bits are read
pub frame_made : (time : Time) (two three : List ℕ) (counts : List ℤ) (page : List ℕ) → counts_from two ≡ Ok counts → page_from three ≡ Ok page
    → frame_from time two three ≡ Ok (record { toi = time.toi; corrected = time.corrected; counts = counts; page = page })
frame_made time two three counts page e f =
    let second = given_ok (subframe_answer Two two) _ counts e in
    let third = given_ok (subframe_answer Three three) _ page f in
    rw (second.0, third.0, second.1, third.1) refl

-- ---- a frame

-- the time alone is that of what is lent, where it is judged as a frame
pub time_done : (f : List ℕ) → frame_judged f Done ≡ Done → time_read (time_in f) ≡ time_alone f
time_done f e = sym (ap (λ (a : Answer). in_turn a (time_read (time_in f))) e)

module _ (f : List ℕ) (t : Time) (found : time_alone f ≡ Ok t) where
  -- where the time alone is read, 1800 symbols are lent, and it is their time
  pub time_lent : (length f ≡ FRAME) × IsBits f × (time_read (time_in f) ≡ Ok t)
  time_lent = go (answered (frame_judged f Done))
    where
      go : Answered (frame_judged f Done) → (length f ≡ FRAME) × IsBits f × (time_read (time_in f) ≡ Ok t)
      go (done e) =
          let lent = lent_done f Done e in
          (lent.0, lent.1, time_done f e ∙ found)
      go (refused n p e) =
          absurd (not_done n p (ap answer_of (sym (ap (λ (a : Answer). in_turn a (time_read (time_in f))) e) ∙ found)))

  after_time : Answer
  after_time = in_turn (subframe_answer Two (subframe_in Two f)) (subframe_answer Three (subframe_in Three f))

  -- and the subframes answer
  pub frame_done : frame_from t (subframe_in Two f) (subframe_in Three f) ≡ frame_read f
  unfolding after_time contents_in
  frame_done =
      let lent = time_lent in
      sym (ap₂ given_by
      (lent_on f lent.0 lent.1 (in_turn (answer_of (time_read (time_in f))) after_time)
      ∙ ap (λ (r : Result Time Refusal). in_turn (answer_of r) after_time) lent.2)
      (ap (λ (r : Result Time Refusal). frame_is
      (record { toi = toi_read r; counts = counts_in (fields_in Subframe2) (bits_in Two f); page = bits_in Three f }) (corrected_read r)) lent.2))
