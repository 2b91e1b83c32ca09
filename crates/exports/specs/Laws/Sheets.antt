-- What the calls on sheets answer is reported by their numbers.
-- Assumes nothing.
use Rattle.std.specs.Prelude.{◌≡◌, Bool, true, false, cond, not, List, [], ◌∷◌, ◌++◌, ℕ, suc, ◌+◌, ◌≤◌, ◌<◌, eqb, leb, ℤ, pos, length, get_or, drop, Err, Ok}
use Rattle.std.proofs.Common.{sym, ap, ◌∙◌, subst, arith, length-append, eqb-true}
use Rattle.words.specs.Refusal.{given_by, LENGTH, TIME, LINE, NAME, NAME_AGAIN, NUMBER, NAME_MISSING, TRAILER, ROOM, done_if, in_turn, Answer, Done, answer_of}
use Rattle.words.specs.Laws.Turns.{both_done, test_done, given_answer}
use Rattle.fields.specs.Table.{no_field}
use Rattle.fields.specs.Counts.{in_range}
use Rattle.fields.specs.Subframe2.{counts_answer}
use Rattle.sheets.specs.Text.{LINE_END, ended_by, after_last}
use Rattle.sheets.specs.List.{NUMBERS, sheet_names, sheet_fields}
use Rattle.sheets.specs.Lines.{has_equals, name_in, behind_equals, is_listed, field_named, is_given, given_in, line_answer, first_missing, missing_answer, lines_answer, lines_in, body_answer}
use Rattle.sheets.specs.Number.{is_number_of}
use Rattle.sheets.specs.Trailer.{has_trailer, lines_bytes}
use Rattle.sheets.specs.Sheet.{sheet_answer, sheet_read}
use Rattle.sheets.specs.Write.{sheet_text, numbers_answer, room_answer, write_answer, sheet_written, size_written}
use Rattle.sheets.specs.Laws.Text.{parts_back}
use Rattle.sheets.specs.Laws.Lengths.{sheet_short}
use Rattle.sheets.specs.Laws.Lines.{given_many}
use Rattle.sheets.specs.Laws.List.{listed_many}
use Rattle.sheets.specs.Laws.Trailer.{trailer_few}
use Rattle.exports.specs.Code.{HALF}
use Rattle.exports.specs.Laws.Codable.{Codable, test_codable, turn_codable, tested_codable}
use Rattle.exports.specs.Laws.Frames.{counts_codable}

line_codable : (before : List (List ℕ)) (place : ℕ) (line : List ℕ) → place < HALF → Codable (line_answer before place line)
unfolding line_answer
line_codable before place line h =
    turn_codable (done_if (has_equals line) LINE place) _ (tested (has_equals line) LINE (λ e. omega arith))
    (turn_codable (done_if (is_listed (name_in line)) NAME place) _ (tested (is_listed (name_in line)) NAME (λ e. omega arith))
    (turn_codable (done_if (not (is_given (name_in line) before)) NAME_AGAIN place) _
    (tested (not (is_given (name_in line) before)) NAME_AGAIN (λ e. omega arith))
    (tested (is_number_of (field_named (name_in line)) (behind_equals line)) NUMBER (λ e. omega arith))))
  where
    tested : (t : Bool) (n : ℕ) → (n ≡ 0 → ⊥) → Codable (done_if t n place)
    tested t n some = test_codable t n place some (λ e. h)

missing_le : (given : List Bool) → first_missing given ≤ length given
unfolding first_missing
missing_le [] = omega arith
missing_le (given ∷ others) = go given (missing_le others)
  where
    go : (t : Bool) → first_missing others ≤ length others → cond t (suc (first_missing others)) 0 ≤ suc (length others)
    go true h = omega arith
    go false h = omega arith

missing_codable : (lines : List (List ℕ)) → Codable (missing_answer lines)
unfolding missing_answer
missing_codable lines =
    test_codable (eqb (first_missing (given_in lines)) (length sheet_names)) NAME_MISSING (first_missing (given_in lines) + 1)
    (λ e. omega arith) (λ e. omega (arith, missing_le (given_in lines), given_many lines, listed_many))

lines_codable : (before : List (List ℕ)) (place : ℕ) (lines : List (List ℕ)) (rest : List ℕ)
    → place + length (ended_by LINE_END lines) < HALF → Codable (lines_answer before place lines rest)
unfolding lines_answer ended_by
lines_codable before place [] rest h =
    turn_codable (done_if (eqb (length rest) 0) LINE place) (missing_answer before)
    (test_codable (eqb (length rest) 0) LINE place (λ e. omega arith) (λ e. omega arith)) (missing_codable before)
lines_codable before place (line ∷ lines) rest h =
    turn_codable (line_answer before place line) (lines_answer (before ++ line ∷ []) (place + length line + 1) lines rest)
    (line_codable before place line (omega arith))
    (lines_codable (before ++ line ∷ []) (place + length line + 1) lines rest (omega (arith, length-append line (LINE_END ∷ ended_by LINE_END lines))))

body_codable : (l : List ℕ) → length l < HALF → Codable (body_answer l)
unfolding body_answer
body_codable l h = lines_codable [] 0 (lines_in l) (after_last LINE_END l) few
  where
    few : 0 + length (ended_by LINE_END (lines_in l)) < HALF
    few =
        omega (
          arith,
          length-append (ended_by LINE_END (lines_in l)) (after_last LINE_END l),
          ap (λ (x : List ℕ). length x) (parts_back LINE_END l),
        )

pub sheet_codable : (s : List ℕ) → Codable (answer_of (sheet_read s))
unfolding sheet_read
sheet_codable s = subst Codable (sym (given_answer (sheet_answer s) _)) (tested_codable (has_trailer s) TRAILER 0 (body_answer (lines_bytes s)) (λ e. omega arith) (omega arith)
    (λ e. body_codable (lines_bytes s) (omega (arith, trailer_few s e))))

pub written_answer : (zs : List ℤ) (out : List ℕ) → answer_of (sheet_written zs out) ≡ write_answer zs out
unfolding sheet_written
written_answer zs out = given_answer (write_answer zs out) (length (sheet_text zs))

pub written_codable : (zs : List ℤ) (out : List ℕ) → Codable (answer_of (sheet_written zs out))
written_codable zs out =
    subst Codable (sym (written_answer zs out))
    (turn_codable (done_if (eqb (length zs) NUMBERS) LENGTH 0) _ (at_0 (eqb (length zs) NUMBERS) LENGTH (λ e. omega arith))
    (turn_codable (numbers_answer zs) (room_answer (sheet_text zs) out)
    (turn_codable (done_if (in_range (get_or sheet_fields 0 no_field) (get_or zs 0 (pos 0))) TIME 0) (counts_answer (drop 1 zs))
    (at_0 (in_range (get_or sheet_fields 0 no_field) (get_or zs 0 (pos 0))) TIME (λ e. omega arith)) (counts_codable (drop 1 zs)))
    (at_0 (leb (length (sheet_text zs)) (length out)) ROOM (λ e. omega arith))))
  where
    at_0 : (t : Bool) (n : ℕ) → (n ≡ 0 → ⊥) → Codable (done_if t n 0)
    at_0 t n some = test_codable t n 0 some (λ e. omega arith)

pub written_few : (zs : List ℤ) (out : List ℕ) → answer_of (sheet_written zs out) ≡ Done → size_written (sheet_written zs out) ≤ 800
unfolding sheet_written
written_few zs out done = go (write_answer zs out) (sym (written_answer zs out) ∙ done)
  where
    go : (a : Answer) → write_answer zs out ≡ Done → size_written (given_by a (length (sheet_text zs))) ≤ 800
    go (Ok _) e =
        let parts = both_done (done_if (eqb (length zs) NUMBERS) LENGTH 0) (in_turn (numbers_answer zs) (room_answer (sheet_text zs) out)) e in
        let numbers = both_done (numbers_answer zs) (room_answer (sheet_text zs) out) parts.1 in
        sheet_short zs (eqb-true (length zs) NUMBERS (test_done (eqb (length zs) NUMBERS) LENGTH 0 parts.0)) numbers.0
    go (Err r) e = omega arith
