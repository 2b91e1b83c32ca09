-- THEOREMS: what each call returns reports its answer, the refusal's number and place or what the call says, whatever is lent.
-- Assumes nothing.
use Rattle.std.specs.Prelude.{◌≡◌, Bool, true, ◌&&◌, List, ℕ, ◌≤◌, ◌<◌, eqb, ltb, ℤ, length, Err, Ok}
use Rattle.std.proofs.Common.{sym, subst, arith, ltb-true, Result}
use Rattle.std.proofs.Math.Bool.{and-eq-true_iff}
use Rattle.words.specs.Refusal.{LENGTH, done_if, Answer, answer_of, given_by}
use Rattle.words.specs.Time.{time_read, time_is, corrected_read}
use Rattle.words.specs.Laws.Judged.{Judged, wrong_length, wrong_byte, time_missing, a_time, judged}
use Rattle.words.specs.Laws.Turns.{both_done, test_done}
use Rattle.words.specs.declared.time.Time.{Time}
use Rattle.tables.specs.declared.matrix.Subframe.TheVariants.{Two, Three}
use Rattle.fields.specs.Subframe2.{COUNTS_2}
use Rattle.fields.specs.Pages.{PAGE_BITS}
use Rattle.frames.specs.Frame.{time_in}
use Rattle.frames.specs.Build.{build_answer}
use Rattle.frames.specs.Read.{contents_in, frame_answer, frame_is, frame_read, time_alone, alone_answer, frame_corrected}
use Rattle.sheets.specs.List.{NUMBERS}
use Rattle.sheets.specs.Lines.{lines_in, numbers_in}
use Rattle.sheets.specs.Trailer.{start_of, lines_bytes}
use Rattle.sheets.specs.Sheet.{sheet_answer, sheet_by, sheet_read, sheet_before}
use Rattle.sheets.specs.Write.{sheet_written, size_written}
use Rattle.sheets.specs.Laws.Sheet.{start_within}
use Rattle.exports.specs.Code.{HALF, code_of, Reports}
use Rattle.exports.specs.Calls.{lent_answer, contents_given, build_call, read_call, time_call, subframe2_call, subframe3_call, sheet_call}
use Rattle.exports.specs.Laws.Codable.{Codable, test_codable, turn_codable, code_reports}
use Rattle.exports.specs.Laws.Frames.{build_codable, read_codable, time_alone_codable, alone_codable}
use Rattle.exports.specs.Laws.Sheets.{sheet_codable, written_codable, written_few}
use Rattle.words.specs.declared.refusal.Refusal.{Refusal}

lent_codable : (lengths : Bool) (a : Answer) → Codable a → Codable (lent_answer lengths a)
lent_codable lengths a h =
    turn_codable (done_if lengths LENGTH 0) a (test_codable lengths LENGTH 0 (λ e. omega arith) (λ e. omega arith)) h

-- a call that says 0
told_0 : (lengths : Bool) (a : Answer) → Codable a → Reports (code_of (lent_answer lengths a) 0) (lent_answer lengths a) 0
told_0 lengths a h = code_reports (lent_answer lengths a) 0 (lent_codable lengths a h) (λ e. omega arith)

-- l1c_build: the answer.
pub build_told : (zs : List ℤ) (page out : List ℕ) → Reports (code_of (build_call zs page out) 0) (build_call zs page out) 0
build_told zs page out =
    told_0 (eqb (length zs) NUMBERS) (build_answer (contents_given zs page) out) (build_codable (contents_given zs page) out)

-- l1c_read: the answer, and how many time symbols were corrected.
pub read_told : (f : List ℕ) (zs : List ℤ) (page : List ℕ)
    → Reports (code_of (read_call f zs page) (frame_corrected (frame_read f))) (read_call f zs page) (frame_corrected (frame_read f))
read_told f zs page =
    let lengths = eqb (length zs) NUMBERS && eqb (length page) PAGE_BITS in
    code_reports (read_call f zs page) (frame_corrected (frame_read f)) (lent_codable lengths (answer_of (frame_read f)) (read_codable f))
    (λ e. omega (arith, few (frame_answer f)))
  where
    word_few : corrected_read (time_read (time_in f)) ≤ 9
    word_few = go (judged (time_in f))
      where
        is : (t : Result Time Refusal) → time_read (time_in f) ≡ t → corrected_read t ≤ 9 → corrected_read (time_read (time_in f)) ≤ 9
        is t e h = subst (λ (x : Result Time Refusal). corrected_read x ≤ 9) (sym e) h

        go : Judged (time_in f) → corrected_read (time_read (time_in f)) ≤ 9
        go (wrong_length l r) = is _ r (omega arith)
        go (wrong_byte l b r) = is _ r (omega arith)
        go (time_missing l b far r) = is _ r (omega arith)
        go (a_time l b toi places t r) = is (time_is toi places) r t.near

    few : (a : Answer) → frame_corrected (given_by a (frame_is (contents_in f) (corrected_read (time_read (time_in f))))) ≤ 9
    few (Ok u) = word_few
    few (Err r) = omega arith

-- l1c_read_time: the answer.
pub time_told : (f time : List ℕ) → Reports (code_of (time_call f time) 0) (time_call f time) 0
time_told f time = told_0 (eqb (length time) 2) (answer_of (time_alone f)) (time_alone_codable f)

-- l1c_read_subframe2: the answer.
pub subframe2_told : (f : List ℕ) (zs : List ℤ) → Reports (code_of (subframe2_call f zs) 0) (subframe2_call f zs) 0
subframe2_told f zs = told_0 (eqb (length zs) COUNTS_2) (alone_answer Two f) (alone_codable Two f)

-- l1c_read_subframe3: the answer.
pub subframe3_told : (f page : List ℕ) → Reports (code_of (subframe3_call f page) 0) (subframe3_call f page) 0
subframe3_told f page = told_0 (eqb (length page) PAGE_BITS) (alone_answer Three f) (alone_codable Three f)

-- l1c_read_sheet: the answer, and how many bytes stand before the sheet.
pub sheet_told : (s : List ℕ) (zs : List ℤ) → Reports (code_of (sheet_call s zs) (sheet_before (sheet_read s))) (sheet_call s zs) (sheet_before (sheet_read s))
unfolding sheet_read
sheet_told s zs =
    code_reports (sheet_call s zs) (sheet_before (sheet_read s)) (lent_codable lengths (answer_of (sheet_read s)) (sheet_codable s))
    (λ e. omega (arith, few (sheet_answer s), short (test_done lengths LENGTH 0 (both_done (done_if lengths LENGTH 0) (answer_of (sheet_read s)) e).0)))
  where
    lengths : Bool
    lengths = ltb (length s) HALF && eqb (length zs) NUMBERS

    short : lengths ≡ true → length s < HALF
    short e = ltb-true (length s) HALF ((and-eq-true_iff (ltb (length s) HALF) (eqb (length zs) NUMBERS)).0 e).0

    few : (a : Answer) → sheet_before (sheet_by a (numbers_in (lines_in (lines_bytes s))) (start_of s)) ≤ length s
    few (Ok u) = start_within s
    few (Err r) = omega arith

-- l1c_write_sheet: the answer, and the sheet's length.
pub written_told : (zs : List ℤ) (out : List ℕ)
    → Reports (code_of (answer_of (sheet_written zs out)) (size_written (sheet_written zs out))) (answer_of (sheet_written zs out)) (size_written (sheet_written zs out))
written_told zs out =
    code_reports (answer_of (sheet_written zs out)) (size_written (sheet_written zs out)) (written_codable zs out) (λ e. omega (arith, written_few zs out e))
