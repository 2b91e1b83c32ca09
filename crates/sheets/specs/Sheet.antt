-- The sheet (document 01, "The sheet"): what it means, and reading it at the end of lent bytes.
-- Assumes nothing.
use Rattle.std.specs.Prelude.{◌≡◌, List, [], ◌∷◌, ◌++◌, ℕ, ◌≤◌, ◌<◌, ℤ, length, get_or, take, Result, Ok, Err}
use Rattle.words.specs.Refusal.{Answer, TRAILER, done_if, given_by, in_turn}
use Rattle.words.specs.declared.refusal.Refusal.{Refusal}
use Rattle.fields.specs.Counts.{AllInRange}
use Rattle.sheets.specs.Text.{LINE_END, EQUALS, ended_by, occurrences}
use Rattle.sheets.specs.List.{sheet_names, sheet_fields}
use Rattle.sheets.specs.Number.{numeral}
use Rattle.sheets.specs.Trailer.{MOST_BYTES, has_trailer, start_of, lines_bytes, trailer_text}
use Rattle.sheets.specs.Lines.{name_in, lines_in, numbers_in, body_answer}
use Rattle.sheets.specs.declared.sheet.Sheet.{Sheet}

-- ---- what a sheet means

-- a line `name=number`, without its end
abbrev pub line_text : List ℕ → ℤ → List ℕ
line_text name z = name ++ EQUALS ∷ numeral z

-- a line for each name and number
unfoldable pub line_texts : List (List ℕ) → List ℤ → List (List ℕ)
line_texts [] zs = []
line_texts (name ∷ names) [] = []
line_texts (name ∷ names) (z ∷ zs) = line_text name z ∷ line_texts names zs

-- the same lines, each as often, in any order
pub record SameLines (lines others : List (List ℕ)) : Type 0 where
  pub each : (line : List ℕ) → occurrences line lines ≡ occurrences line others

-- lines, each ended by byte 10, and then the trailer, whose digits count their bytes
abbrev pub with_trailer : List (List ℕ) → List ℕ
with_trailer lines = ended_by LINE_END lines ++ trailer_text (length (ended_by LINE_END lines))

-- s is a sheet of these numbers, toi's first: each is in its field's range, and the lines are `name=number` for each name of the list, in
-- any order, of at most 4096 bytes
pub record IsSheet (zs : List ℤ) (s : List ℕ) : Type 0 where
  pub within_range : AllInRange sheet_fields zs
  pub lines : List (List ℕ)
  pub same_lines : SameLines lines (line_texts sheet_names zs)
  pub few : length (ended_by LINE_END lines) ≤ MOST_BYTES
  pub text : s ≡ with_trailer lines

-- s ends with a sheet of these numbers, and n bytes stand before it
pub record SheetAt (s : List ℕ) (zs : List ℤ) (n : ℕ) : Type 0 where
  pub front : List ℕ
  pub sheet : List ℕ
  pub text : s ≡ front ++ sheet
  pub before : length front ≡ n
  pub is_sheet : IsSheet zs sheet

-- exactly one of the lines has the name, and its number is z
pub record OneLine (lines : List (List ℕ)) (name : List ℕ) (z : ℤ) : Type 0 where
  pub index : ℕ
  pub inside : index < length lines
  pub says : get_or lines index [] ≡ line_text name z
  pub only : (j : ℕ) → j < length lines → name_in (get_or lines j []) ≡ name → j ≡ index

-- ---- reading

-- judging the sheet at the end of s: 10, then its lines
abbrev pub sheet_answer : List ℕ → Answer
sheet_answer s = in_turn (done_if (has_trailer s) TRAILER 0) (body_answer (lines_bytes s))

-- the numbers of a sheet, and how many bytes stand before it
abbrev pub sheet_is : List ℤ → ℕ → Result Sheet Refusal
sheet_is zs before = Ok (record { numbers = zs; before = before })

-- by the answer
abbrev pub sheet_by : Answer → List ℤ → ℕ → Result Sheet Refusal
sheet_by a zs before = given_by a (record { numbers = zs; before = before })

-- what was read of a sheet; nothing where it was refused
abbrev pub sheet_numbers : Result Sheet Refusal → List ℤ
sheet_numbers (Ok sheet) = sheet.numbers
sheet_numbers (Err r) = []

abbrev pub sheet_before : Result Sheet Refusal → ℕ
sheet_before (Ok sheet) = sheet.before
sheet_before (Err r) = 0

-- reading the sheet at the end of s
unfoldable pub sheet_read : List ℕ → Result Sheet Refusal
sheet_read s = sheet_by (sheet_answer s) (numbers_in (lines_in (lines_bytes s))) (start_of s)

-- the part of s before it; empty on a refusal
abbrev pub before_sheet : List ℕ → List ℕ
before_sheet s = take (sheet_before (sheet_read s)) s
