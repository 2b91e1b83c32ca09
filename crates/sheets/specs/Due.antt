-- When each refusal of reading and of writing a sheet is due (document 01, "Numbers given on refusal"), each number by its own rule, in
-- document 01's order: 10, then line by line 11 12 13 14, then 15; in writing 1, 3, 6, 16.
-- Assumes nothing.
use Rattle.std.specs.Prelude.{◌≡◌, true, List, [], ◌++◌, ◌≢◌, ℕ, ◌+◌, ◌≤◌, ◌<◌, ℤ, pos, length, get_or, take, drop}
use Rattle.words.specs.Refusal.{LENGTH, TIME, FIELD_2, TRAILER, LINE, NAME, NAME_AGAIN, NUMBER, NAME_MISSING, ROOM}
use Rattle.fields.specs.Table.{no_field, fields_in}
use Rattle.fields.specs.Counts.{in_range, AllInRange, FirstOutAt}
use Rattle.fields.specs.declared.table.Table.TheVariants.{Subframe2}
use Rattle.frames.specs.Due.{RefusesWith}
use Rattle.sheets.specs.Text.{LINE_END, EQUALS, index_of, ended_by, after_last}
use Rattle.sheets.specs.List.{NUMBERS, sheet_names, sheet_fields}
use Rattle.sheets.specs.Number.{numeral}
use Rattle.sheets.specs.Trailer.{MOST_BYTES, trailer_text}
use Rattle.sheets.specs.Lines.{name_in, behind_equals, lines_in}
use Rattle.sheets.specs.Sheet.{sheet_answer}
use Rattle.sheets.specs.Write.{sheet_text}

-- s ends with `body`, of at most 4096 bytes, and the trailer that counts them; `front` stands before
pub record EndsWith (s front body : List ℕ) : Type 0 where
  pub text : s ≡ front ++ (body ++ trailer_text (length body))
  pub few : length body ≤ MOST_BYTES

-- ---- a line

-- the name is at position k of the list, from 0
pub record Listed (name : List ℕ) (k : ℕ) : Type 0 where
  pub inside : k < length sheet_names
  pub is : get_or sheet_names k [] ≡ name

-- it is not on the list
abbrev pub Unlisted : List ℕ → Type 0
Unlisted name = (k : ℕ) → Listed name k → ⊥

-- one of the lines has the name
pub record GivenBy (name : List ℕ) (lines : List (List ℕ)) : Type 0 where
  pub index : ℕ
  pub inside : index < length lines
  pub named : name_in (get_or lines index []) ≡ name

-- there is a `=` in the line
abbrev pub HasEquals : List ℕ → Type 0
HasEquals line = index_of EQUALS line < length line

-- the text is a number in the range of the field k
pub record NumberOf (k : ℕ) (text : List ℕ) : Type 0 where
  pub count : ℤ
  pub written : text ≡ numeral count
  pub within_range : in_range (get_or sheet_fields k no_field) count ≡ true

-- 11 12 13 14 for a line, after the lines before it
pub data LineDue (before : List (List ℕ)) (line : List ℕ) : ℕ → Type 0 where
  equals_due : (HasEquals line → ⊥) → LineDue before line LINE
  name_due : HasEquals line → Unlisted (name_in line) → LineDue before line NAME
  again_due : (k : ℕ) → HasEquals line → Listed (name_in line) k → GivenBy (name_in line) before → LineDue before line NAME_AGAIN
  number_due : (k : ℕ) → HasEquals line → Listed (name_in line) k → (GivenBy (name_in line) before → ⊥) → (NumberOf k (behind_equals line) → ⊥)
      → LineDue before line NUMBER

-- ---- the lines

-- where the line i begins
abbrev pub line_place : List (List ℕ) → ℕ → ℕ
line_place lines i = length (ended_by LINE_END (take i lines))

-- something is due for the line i, after the lines before it
abbrev pub DueAt : List (List ℕ) → ℕ → ℕ → Type 0
DueAt lines i n = LineDue (take i lines) (get_or lines i []) n

-- nothing is due for the first i lines
abbrev pub FineBefore : List (List ℕ) → ℕ → Type 0
FineBefore lines i = (j n : ℕ) → j < i → DueAt lines j n → ⊥

-- k is the lowest position in the list, from 0, of a name that no line has
pub record FirstMissingAt (lines : List (List ℕ)) (k : ℕ) : Type 0 where
  pub inside : k < length sheet_names
  pub missing : GivenBy (get_or sheet_names k []) lines → ⊥
  pub lower : (j : ℕ) → j < k → GivenBy (get_or sheet_names j []) lines

-- for the bytes of the lines: the first line that something is due for; a line without its end; a missing name
pub data LinesDue (body : List ℕ) : ℕ → ℕ → Type 0 where
  line_due : (i n : ℕ) → i < length (lines_in body) → FineBefore (lines_in body) i → DueAt (lines_in body) i n
      → LinesDue body n (line_place (lines_in body) i)
  end_due : FineBefore (lines_in body) (length (lines_in body)) → after_last LINE_END body ≢ []
      → LinesDue body LINE (line_place (lines_in body) (length (lines_in body)))
  missing_due : (k : ℕ) → FineBefore (lines_in body) (length (lines_in body)) → after_last LINE_END body ≡ []
      → FirstMissingAt (lines_in body) k → LinesDue body NAME_MISSING (k + 1)

-- ---- the sheet

-- at the end of s: no trailer; or what is due for the lines
pub data SheetDue (s : List ℕ) : ℕ → ℕ → Type 0 where
  trailer_due : ((front body : List ℕ) → EndsWith s front body → ⊥) → SheetDue s TRAILER 0
  lines_due : (n p : ℕ) (front body : List ℕ) → EndsWith s front body → LinesDue body n p → SheetDue s n p

-- the line i has a name that is not on the list
pub record UnknownAt (lines : List (List ℕ)) (i : ℕ) : Type 0 where
  pub inside : i < length lines
  pub has : HasEquals (get_or lines i [])
  pub unlisted : Unlisted (name_in (get_or lines i []))

-- the sheet is refused for the name of the line i, 12 at its first byte; or for something else, at a line before it, which is judged first
pub data RefusedUpTo (s : List ℕ) (lines : List (List ℕ)) (i : ℕ) : Type 0 where
  at_its_line : RefusesWith (sheet_answer s) NAME (line_place lines i) → RefusedUpTo s lines i
  at_a_line_before : (j n : ℕ) → j < i → DueAt lines j n → n ≢ NAME → RefusesWith (sheet_answer s) n (line_place lines j) → RefusedUpTo s lines i

-- ---- writing

-- the number of toi is a time: 0 to 399
abbrev pub TimeOf : List ℤ → Type 0
TimeOf zs = in_range (get_or sheet_fields 0 no_field) (get_or zs 0 (pos 0)) ≡ true

-- in writing: 1, 3, 6, 16
pub data WriteDue (zs : List ℤ) (out : List ℕ) : ℕ → ℕ → Type 0 where
  numbers_due : length zs ≢ NUMBERS → WriteDue zs out LENGTH 0
  time_due : length zs ≡ NUMBERS → (TimeOf zs → ⊥) → WriteDue zs out TIME 0
  field_due : (p : ℕ) → length zs ≡ NUMBERS → TimeOf zs → FirstOutAt 0 (fields_in Subframe2) (drop 1 zs) p → WriteDue zs out FIELD_2 p
  room_due : AllInRange sheet_fields zs → length out < length (sheet_text zs) → WriteDue zs out ROOM 0
