-- The lines of a sheet (document 01, "The sheet" and "Numbers given on refusal"): judged line by line, 11 12 13 14, and then 15.
-- Assumes nothing.
use Rattle.std.specs.Prelude.{Bool, false, cond, not, ◌||◌, List, [], ◌∷◌, ◌++◌, map, ℕ, suc, ◌+◌, eqb, ltb, ℤ, pos, length, get_or, take, drop}
use Rattle.words.specs.Refusal.{LINE, NAME, NAME_AGAIN, NUMBER, NAME_MISSING, done_if, in_turn, Answer}
use Rattle.fields.specs.Table.{no_field}
use Rattle.fields.specs.declared.table.Field.{Field}
use Rattle.sheets.specs.Text.{LINE_END, EQUALS, index_of, same_bytes, parts_ended, after_last}
use Rattle.sheets.specs.List.{sheet_names, sheet_fields, position_in}
use Rattle.sheets.specs.Number.{value_in, is_number_of}

-- a line has its `=`
abbrev pub has_equals : List ℕ → Bool
has_equals line = ltb (index_of EQUALS line) (length line)

-- the name ends at the line's first `=`
abbrev pub name_in : List ℕ → List ℕ
name_in line = take (index_of EQUALS line) line

-- and the number stands behind it
abbrev pub behind_equals : List ℕ → List ℕ
behind_equals line = drop (index_of EQUALS line + 1) line

-- the name is on the list
abbrev pub is_listed : List ℕ → Bool
is_listed name = ltb (position_in name sheet_names) (length sheet_names)

-- the field of a name
abbrev pub field_named : List ℕ → Field
field_named name = get_or sheet_fields (position_in name sheet_names) no_field

-- the name is that of one of the lines
unfoldable pub is_given : List ℕ → List (List ℕ) → Bool
is_given name [] = false
is_given name (line ∷ lines) = same_bytes name (name_in line) || is_given name lines

-- the number that the lines give for the name: that of the first line with it, 0 where there is none
unfoldable pub number_given : List ℕ → List (List ℕ) → ℤ
number_given name [] = pos 0
number_given name (line ∷ lines) = cond (same_bytes name (name_in line)) (value_in (behind_equals line)) (number_given name lines)

-- for each name of the list, whether it is given
unfoldable pub given_in : List (List ℕ) → List Bool
given_in lines = map (λ (name : List ℕ). is_given name lines) sheet_names

-- and its number
unfoldable pub numbers_in : List (List ℕ) → List ℤ
numbers_in lines = map (λ (name : List ℕ). number_given name lines) sheet_names

-- a line whose first byte is at `place`, after the lines before it: 11 without `=`, 12 for a name that is not on the list, 13 for one that
-- is already given, 14 for a number that is malformed or out of the field's range
unfoldable pub line_answer : List (List ℕ) → ℕ → List ℕ → Answer
line_answer before place line =
    in_turn (done_if (has_equals line) LINE place)
    (in_turn (done_if (is_listed (name_in line)) NAME place)
    (in_turn (done_if (not (is_given (name_in line) before)) NAME_AGAIN place)
    (done_if (is_number_of (field_named (name_in line)) (behind_equals line)) NUMBER place)))

-- how many names stand before the first that is not given: all, where none is missing
unfoldable pub first_missing : List Bool → ℕ
first_missing [] = 0
first_missing (given ∷ others) = cond given (suc (first_missing others)) 0

-- after the last line: 15 at the position in the list, from 1, of the first name that is missing
unfoldable pub missing_answer : List (List ℕ) → Answer
missing_answer lines =
    done_if (eqb (first_missing (given_in lines)) (length sheet_names)) NAME_MISSING (first_missing (given_in lines) + 1)

-- lines from `place` on, after those before them; then what stands after the last line's end, a line without its end: 11; then 15
unfoldable pub lines_answer : List (List ℕ) → ℕ → List (List ℕ) → List ℕ → Answer
lines_answer before place [] rest = in_turn (done_if (eqb (length rest) 0) LINE place) (missing_answer before)
lines_answer before place (line ∷ lines) rest =
    in_turn (line_answer before place line) (lines_answer (before ++ line ∷ []) (place + length line + 1) lines rest)

-- the lines of these bytes, each without its end
abbrev pub lines_in : List ℕ → List (List ℕ)
lines_in l = parts_ended LINE_END l

-- judging the bytes of a sheet before its trailer
unfoldable pub body_answer : List ℕ → Answer
body_answer l = lines_answer [] 0 (lines_in l) (after_last LINE_END l)
