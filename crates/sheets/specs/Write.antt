-- Writing a sheet (document 01, "The sheet" and "Numbers given on refusal"): in the list's order, toi first, from the first lent byte on.
-- Refused 1 unless 34 numbers are lent, then 3, 6, 16; on a refusal the lent bytes stay.
-- Assumes nothing.
use Rattle.std.specs.Prelude.{List, ◌++◌, ℕ, eqb, leb, ℤ, pos, length, get_or, drop, Result, Ok, Err}
use Rattle.words.specs.Refusal.{LENGTH, TIME, ROOM, done_if, in_turn, left_by, given_by, Answer}
use Rattle.fields.specs.Table.{no_field}
use Rattle.fields.specs.Counts.{in_range}
use Rattle.fields.specs.Subframe2.{counts_answer}
use Rattle.sheets.specs.List.{NUMBERS, sheet_names, sheet_fields}
use Rattle.sheets.specs.Sheet.{line_texts, with_trailer}
use Rattle.words.specs.declared.refusal.Refusal.{Refusal}

-- the sheet of these numbers, in the list's order
unfoldable pub sheet_text : List ℤ → List ℕ
sheet_text zs = with_trailer (line_texts sheet_names zs)

-- judging the numbers: 3 for a time that is none, then 6 at the first bit of the first field out of range
abbrev pub numbers_answer : List ℤ → Answer
numbers_answer zs = in_turn (done_if (in_range (get_or sheet_fields 0 no_field) (get_or zs 0 (pos 0))) TIME 0) (counts_answer (drop 1 zs))

-- 16 where the lent bytes are fewer than a text's
abbrev pub room_answer : List ℕ → List ℕ → Answer
room_answer text out = done_if (leb (length text) (length out)) ROOM 0

-- the answer: 1, 3, 6, 16
abbrev pub write_answer : List ℤ → List ℕ → Answer
write_answer zs out = in_turn (done_if (eqb (length zs) NUMBERS) LENGTH 0) (in_turn (numbers_answer zs) (room_answer (sheet_text zs) out))

-- what writing gives: the sheet's length
unfoldable pub sheet_written : List ℤ → List ℕ → Result ℕ Refusal
sheet_written zs out = given_by (write_answer zs out) (length (sheet_text zs))

-- how many bytes were written, 0 on a refusal
abbrev pub size_written : Result ℕ Refusal → ℕ
size_written (Ok n) = n
size_written (Err r) = 0

-- a text from the first lent byte on, and behind it what stood there
abbrev pub put_first : List ℕ → List ℕ → List ℕ
put_first text out = text ++ drop (length text) out

-- the lent bytes then: the sheet put first; on a refusal as they were
unfoldable pub written_bytes : List ℤ → List ℕ → List ℕ
written_bytes zs out = left_by (write_answer zs out) (put_first (sheet_text zs) out) out

-- what writing any text gives, and the lent bytes then
unfoldable pub text_written : List ℕ → List ℕ → Result ℕ Refusal
text_written text out = given_by (room_answer text out) (length text)

unfoldable pub text_bytes : List ℕ → List ℕ → List ℕ
text_bytes text out = left_by (room_answer text out) (put_first text out) out
