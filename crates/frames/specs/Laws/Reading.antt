-- What is judged of a frame and of its subframes, and what a frame has that is done.
-- Assumes nothing.
use Rattle.std.specs.Prelude.{◌≡◌, refl, Bool, ℕ, ◌+◌, eqb, length, take, Err, Ok}
use Rattle.std.proofs.Math.Path.{ap, ap₂}
use Rattle.std.proofs.Common.{arith, length-take-le, eq-eqb, eqb-true, Result}
use mathlib.Core.List.{List}
use Rattle.words.specs.Bits.{IsBits, first_not_bit}
use Rattle.words.specs.Crc.{remainder_of, Right}
use Rattle.words.specs.Reading.{read_exactly}
use Rattle.words.specs.Refusal.{FIELD_2, FIELD_3, done_if, in_turn, number_of, Answer, Done, answer_of}
use Rattle.words.specs.declared.time.Time.{Time}
use Rattle.words.specs.declared.refusal.Refusal.{Refusal}
use Rattle.words.specs.Time.{IsTime, time_is, time_read, toi_read, corrected_read}
use Rattle.words.specs.Laws.Digits.{bits_none, none_not_bit, bits_take}
use Rattle.words.specs.Laws.Turns.{both_done, test_done, judged_on, judged_done, Numbered, test_numbered, turn_numbered, given_answer, not_done}
use Rattle.tables.specs.Matrix.{matrix_of}
use Rattle.tables.specs.declared.matrix.Subframe.{Subframe}
use Rattle.tables.specs.declared.matrix.Subframe.TheVariants.{Two, Three}
use Rattle.parity.specs.Equations.{data_of, Meets, met_answer}
use Rattle.parity.specs.Judged.{done_met, met_done}
use Rattle.fields.specs.Table.{fields_in}
use Rattle.fields.specs.Counts.{counts_in}
use Rattle.fields.specs.Subframe2.{first_out2}
use Rattle.fields.specs.declared.table.Table.TheVariants.{Subframe2}
use Rattle.frames.specs.Frame.{FRAME, TIME_SYMBOLS, time_in, subframe_in, bits_before, bits_in}
use Rattle.frames.specs.Read.{check_number, check_bits_answer, ranges_answer, subframe_answer, frame_judged, alone_answer}
use Rattle.frames.specs.Laws.Good.{first_out3}

-- ---- a subframe

-- what is answered of a subframe that is read alone
pub alone_is : (s : Subframe) (f : List ℕ) → alone_answer s f ≡ frame_judged f (subframe_answer s (subframe_in s f))
alone_is Two f = given_answer (frame_judged f (subframe_answer Two (subframe_in Two f))) (counts_in (fields_in Subframe2) (bits_in Two f))
alone_is Three f = given_answer (frame_judged f (subframe_answer Three (subframe_in Three f))) (bits_in Three f)

-- a subframe whose answer has no number is done
pub subframe_numbered : (s : Subframe) (y : List ℕ) → Numbered (subframe_answer s y)
subframe_numbered s y =
    turn_numbered (met_answer s y) (in_turn (check_bits_answer s (data_of (matrix_of s) y)) (ranges_answer s (take (bits_before s) y)))
    (λ e. let all = done_met s y e in met_done s y all.0 all.1 all.2)
    (turn_numbered (check_bits_answer s (data_of (matrix_of s) y)) (ranges_answer s (take (bits_before s) y))
    (test_numbered (eqb (remainder_of (data_of (matrix_of s) y)) 0) (check_number s) 0 (check_some s)) (ranges_numbered s (take (bits_before s) y)))
  where
    check_some : (s : Subframe) → check_number s ≡ 0 → ⊥
    check_some Two e = omega arith
    check_some Three e = omega arith

    ranges_numbered : (s : Subframe) (bits : List ℕ) → Numbered (ranges_answer s bits)
    ranges_numbered Two bits = test_numbered (eqb (first_out2 bits) 0) FIELD_2 (first_out2 bits) (λ e. omega arith)
    ranges_numbered Three bits = test_numbered (eqb (first_out3 bits) 0) FIELD_3 (first_out3 bits) (λ e. omega arith)

-- what a subframe that is done has
pub record IsDone (s : Subframe) (y : List ℕ) : Type 0 where
  pub long : length y ≡ (matrix_of s).equations + (matrix_of s).equations
  pub bits : IsBits y
  pub meets : Meets (matrix_of s) y
  pub right : Right (data_of (matrix_of s) y)
  pub ranges : ranges_answer s (take (bits_before s) y) ≡ Done

pub done_is : (s : Subframe) (y : List ℕ) → subframe_answer s y ≡ Done → IsDone s y
done_is s y e =
    let first = both_done (met_answer s y) (in_turn (check_bits_answer s (data_of (matrix_of s) y)) (ranges_answer s (take (bits_before s) y))) e in
    let rest = both_done (check_bits_answer s (data_of (matrix_of s) y)) (ranges_answer s (take (bits_before s) y)) first.1 in
    let met = done_met s y (ap number_of first.0) in
    let r = remainder_of (data_of (matrix_of s) y) in
    record {
      long = met.0;
      bits = met.1;
      meets = met.2;
      right = eqb-true r 0 (test_done (eqb r 0) (check_number s) 0 rest.0);
      ranges = rest.1;
    }

pub is_done_lem : (s : Subframe) (y : List ℕ) → IsDone s y → subframe_answer s y ≡ Done
is_done_lem s y h =
    ap₂ in_turn (met_done s y h.long h.bits h.meets)
    (ap₂ in_turn (ap (λ (t : Bool). done_if t (check_number s) 0) (eq-eqb (remainder_of (data_of (matrix_of s) y)) 0 h.right)) h.ranges)

-- ---- what is lent as a frame

pub lent_on : (f : List ℕ) → length f ≡ FRAME → IsBits f → (a : Answer) → frame_judged f a ≡ a
lent_on f long bits a =
    judged_on (eqb (length f) FRAME) (eqb (first_not_bit f) (length f)) (first_not_bit f) a
    (eq-eqb (length f) FRAME long) (eq-eqb (first_not_bit f) (length f) (bits_none f bits))

pub lent_done : (f : List ℕ) (a : Answer) → frame_judged f a ≡ Done → (length f ≡ FRAME) × IsBits f × (a ≡ Done)
lent_done f a e =
    let h = judged_done (eqb (length f) FRAME) (eqb (first_not_bit f) (length f)) (first_not_bit f) a e in
    (eqb-true (length f) FRAME h.0, none_not_bit f (eqb-true (first_not_bit f) (length f) h.1), h.2)

-- ---- the time

pub time_length : (f : List ℕ) → length f ≡ FRAME → length (time_in f) ≡ TIME_SYMBOLS
time_length f long = length-take-le TIME_SYMBOLS f (omega arith)

pub time_is_lem : (f : List ℕ) (toi places : ℕ) → length f ≡ FRAME → IsBits f → IsTime (time_in f) toi places → time_read (time_in f) ≡ time_is toi places
time_is_lem f toi places long bits h =
    (read_exactly (time_in f) toi places).1 (time_length f long, bits_take TIME_SYMBOLS f bits, h)

-- a time that is read is one within nine
pub time_found : (f : List ℕ) → answer_of (time_read (time_in f)) ≡ Done
    → IsTime (time_in f) (toi_read (time_read (time_in f))) (corrected_read (time_read (time_in f)))
time_found f e = go (time_read (time_in f)) refl e
  where
    go : (r : Result Time Refusal) → time_read (time_in f) ≡ r → answer_of r ≡ Done → IsTime (time_in f) (toi_read r) (corrected_read r)
    go (Ok t) q e = ((read_exactly (time_in f) t.toi t.corrected).0 q).2
    go (Err r) q e = absurd (not_done r.number r.place e)

-- ---- a whole frame

-- what a frame has that is done
pub record Parts (f : List ℕ) : Type 0 where
  pub long : length f ≡ FRAME
  pub bits : IsBits f
  pub time : answer_of (time_read (time_in f)) ≡ Done
  pub done : (s : Subframe) → IsDone s (subframe_in s f)
