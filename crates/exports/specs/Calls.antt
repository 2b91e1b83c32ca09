-- The calls (include/l1c.h): what each answers, and what is left in the memory lent to it. Numbers are 34, toi's first. A lent slice of
-- another length than stated is 1 at 0, first; on a refusal all lent memory stays.
-- Assumes nothing.
use Rattle.std.specs.Prelude.{Bool, ◌&&◌, List, ℕ, ◌+◌, min, eqb, ltb, ℤ, pos, negsuc, length, get_or, drop, Err, Ok}
use Rattle.words.specs.Refusal.{LENGTH, done_if, in_turn, left_by, Answer, answer_of, list_given}
use Rattle.words.specs.Time.{LAST_TOI}
use Rattle.fields.specs.Subframe2.{COUNTS_2}
use Rattle.fields.specs.Pages.{PAGE_BITS}
use Rattle.frames.specs.Frame.{Contents, frame_of}
use Rattle.frames.specs.Build.{contents_of, build_answer}
use Rattle.frames.specs.Read.{frame_read, time_alone, subframe2_alone, subframe3_alone, frame_numbers, frame_page, time_numbers}
use Rattle.sheets.specs.List.{NUMBERS}
use Rattle.sheets.specs.Sheet.{sheet_read, sheet_numbers}
use Rattle.exports.specs.Code.{HALF}

-- 1 at 0 unless the lent slices are as long as stated, and then what else is answered
abbrev pub lent_answer : Bool → Answer → Answer
lent_answer lengths answer = in_turn (done_if lengths LENGTH 0) answer

-- what is then left in lent numbers: the new ones where nothing is refused, and else the numbers as they were
abbrev pub numbers_left : Answer → List ℤ → List ℤ → List ℤ
numbers_left (Ok _) new zs = new
numbers_left (Err r) new zs = zs

-- ---- building

-- the time that a number is; 400, which is no time, for a number that is none from 0 to 399
abbrev pub toi_of : ℤ → ℕ
toi_of (pos n) = min n (LAST_TOI + 1)
toi_of (negsuc n) = LAST_TOI + 1

-- the contents that numbers and page bits are
abbrev pub contents_given : List ℤ → List ℕ → Contents
contents_given zs page = contents_of (toi_of (get_or zs 0 (pos 0))) (drop 1 zs) page

-- l1c_build
abbrev pub build_call : List ℤ → List ℕ → List ℕ → Answer
build_call zs page out = lent_answer (eqb (length zs) NUMBERS) (build_answer (contents_given zs page) out)

abbrev pub build_call_frame : List ℤ → List ℕ → List ℕ → List ℕ
build_call_frame zs page out = left_by (build_call zs page out) (frame_of (contents_given zs page)) out

-- ---- reading frames

-- l1c_read; it says how many time symbols were corrected
abbrev pub read_call : List ℕ → List ℤ → List ℕ → Answer
read_call f zs page = lent_answer (eqb (length zs) NUMBERS && eqb (length page) PAGE_BITS) (answer_of (frame_read f))

abbrev pub read_call_numbers : List ℕ → List ℤ → List ℕ → List ℤ
read_call_numbers f zs page = numbers_left (read_call f zs page) (frame_numbers (frame_read f)) zs

abbrev pub read_call_page : List ℕ → List ℤ → List ℕ → List ℕ
read_call_page f zs page = left_by (read_call f zs page) (frame_page (frame_read f)) page

-- l1c_read_time; it hands back toi and how many symbols were corrected
abbrev pub time_call : List ℕ → List ℕ → Answer
time_call f time = lent_answer (eqb (length time) 2) (answer_of (time_alone f))

abbrev pub time_call_time : List ℕ → List ℕ → List ℕ
time_call_time f time = left_by (time_call f time) (time_numbers (time_alone f)) time

-- l1c_read_subframe2
abbrev pub subframe2_call : List ℕ → List ℤ → Answer
subframe2_call f zs = lent_answer (eqb (length zs) COUNTS_2) (answer_of (subframe2_alone f))

abbrev pub subframe2_call_counts : List ℕ → List ℤ → List ℤ
subframe2_call_counts f zs = numbers_left (subframe2_call f zs) (list_given (subframe2_alone f)) zs

-- l1c_read_subframe3
abbrev pub subframe3_call : List ℕ → List ℕ → Answer
subframe3_call f page = lent_answer (eqb (length page) PAGE_BITS) (answer_of (subframe3_alone f))

abbrev pub subframe3_call_page : List ℕ → List ℕ → List ℕ
subframe3_call_page f page = left_by (subframe3_call f page) (list_given (subframe3_alone f)) page

-- ---- sheets; l1c_write_sheet answers and leaves what writing a sheet does

-- l1c_read_sheet; it says how many bytes stand before the sheet, so the lent bytes are fewer than 2^32
abbrev pub sheet_call : List ℕ → List ℤ → Answer
sheet_call s zs = lent_answer (ltb (length s) HALF && eqb (length zs) NUMBERS) (answer_of (sheet_read s))

abbrev pub sheet_call_numbers : List ℕ → List ℤ → List ℤ
sheet_call_numbers s zs = numbers_left (sheet_call s zs) (sheet_numbers (sheet_read s)) zs
