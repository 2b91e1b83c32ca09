-- The input of the bench program: the numbers of its sheet as contents, and a sheet that begins with the first byte.
-- Assumes nothing.
use Rattle.std.specs.Prelude.{◌≡◌, refl, Bool, true, ◌&&◌, leb, List, [], ◌∷◌, ◌++◌, ℕ, ◌≤◌, ℤ, pos, length, get_or, take, drop}
use Rattle.std.proofs.Common.{sym, ap₂, ◌∙◌, subst, arith, le-leb}
use Rattle.std.proofs.Math.Path.{ap}
use Rattle.std.specs.Int.Signed.{mag, non_neg}
use Rattle.std.proofs.Math.Bool.{and-eq-true_iff}
use Rattle.words.specs.Refusal.{TIME, done_if, in_turn, Answer, Done, answer_of}
use Rattle.words.specs.Time.{LAST_TOI}
use Rattle.words.specs.Laws.Turns.{both_done}
use Rattle.fields.specs.Table.{fields_in, no_field}
use Rattle.fields.specs.Counts.{in_range, AllInRange}
use Rattle.fields.specs.Laws.Counts.{range_head, range_most}
use Rattle.fields.specs.Subframe2.{counts_answer}
use Rattle.fields.specs.Pages.{range_answer}
use Rattle.fields.specs.declared.table.Table.TheVariants.{Subframe2}
use Rattle.frames.specs.Frame.{Contents}
use Rattle.frames.specs.Build.{contents_answer}
use Rattle.sheets.specs.List.{sheet_rows, sheet_fields}
use Rattle.sheets.specs.Trailer.{has_trailer, start_of, lines_bytes}
use Rattle.sheets.specs.Lines.{lines_in, numbers_in}
use Rattle.sheets.specs.Sheet.{IsSheet, sheet_answer, sheet_is, sheet_by, sheet_read, sheet_numbers}
use Rattle.sheets.specs.Contents.{numbers_of}
use Rattle.sheets.specs.Due.{EndsWith}
use Rattle.sheets.specs.Laws.Lengths.{toi_field, range_good}
use Rattle.sheets.specs.Laws.Trailer.{trailer_start}
use Rattle.sheets.specs.Laws.Verdicts.{has_ends}
use Rattle.sheets.proofs.Reading.{read_exactly}
use Rattle.programs.specs.Building.{carried_contents}
use Rattle.words.specs.Laws.Turns.{given_answer}

-- ---- the numbers of a sheet as contents

pub carried_is : (c : Contents) → carried_contents (numbers_of c) c.page ≡ c
carried_is c = refl

pub first_time : (zs : List ℤ) → AllInRange sheet_fields zs → mag (get_or zs 0 (pos 0)) ≤ LAST_TOI
unfolding sheet_fields sheet_rows fields_in
first_time [] range = absurd (omega (arith, range.as_many))
first_time (z ∷ zs) range = range_most toi_field z (range_head toi_field (fields_in Subframe2) z zs range)

pub first_number : (zs : List ℤ) → AllInRange sheet_fields zs → non_neg (get_or zs 0 (pos 0)) ≡ true
unfolding sheet_fields sheet_rows fields_in
first_number [] range = absurd (omega (arith, range.as_many))
first_number (z ∷ zs) range =
    ((and-eq-true_iff (non_neg z) (leb toi_field.least (mag z) && leb (mag z) toi_field.most)).0
    (range_head toi_field (fields_in Subframe2) z zs range)).0

-- in building, only the page can then be refused
pub carried_answer : (zs : List ℤ) (page : List ℕ) → AllInRange sheet_fields zs → contents_answer (carried_contents zs page) ≡ range_answer page
carried_answer zs page range =
    let toi = mag (get_or zs 0 (pos 0)) in
    ap₂ (λ (t : Bool) (a : Answer). in_turn (done_if t TIME 0) (in_turn a (range_answer page)))
    (le-leb toi LAST_TOI (first_time zs range))
    (both_done (done_if (in_range (get_or sheet_fields 0 no_field) (get_or zs 0 (pos 0))) TIME 0) (counts_answer (drop 1 zs)) (range_good zs range).1).1

-- ---- a sheet that begins with the first of the bytes

pub starts : (bytes body : List ℕ) → EndsWith bytes [] body → start_of bytes ≡ 0
starts bytes body ends = ap start_of ends.text ∙ trailer_start [] body ends.few

pub starts_with : (bytes : List ℕ) → has_trailer bytes ≡ true → start_of bytes ≡ 0 → EndsWith bytes [] (lines_bytes bytes)
starts_with bytes h e = subst (λ (m : ℕ). EndsWith bytes (take m bytes) (lines_bytes bytes)) e (has_ends bytes h)

-- reading answers as judging does
pub read_answer : (s : List ℕ) → answer_of (sheet_read s) ≡ sheet_answer s
unfolding sheet_read
read_answer s = given_answer (sheet_answer s) _

read_done : (s : List ℕ) → sheet_answer s ≡ Done → sheet_read s ≡ sheet_is (numbers_in (lines_in (lines_bytes s))) (start_of s)
unfolding sheet_read
read_done s e = ap (λ (a : Answer). sheet_by a (numbers_in (lines_in (lines_bytes s))) (start_of s)) e

-- one that is done is a sheet of the numbers read
no_front : (front sheet : List ℕ) → length front ≡ 0 → front ++ sheet ≡ sheet
no_front [] sheet e = refl
no_front (b ∷ front) sheet e = absurd (omega arith)

pub done_sheet : (bytes body : List ℕ) → EndsWith bytes [] body → sheet_answer bytes ≡ Done → IsSheet (sheet_numbers (sheet_read bytes)) bytes
done_sheet bytes body ends e =
    let zs = numbers_in (lines_in (lines_bytes bytes)) in
    let read : sheet_read bytes ≡ sheet_is zs 0 = read_done bytes e ∙ ap (sheet_is zs) (starts bytes body ends) in
    let at = (read_exactly bytes zs 0).0 read in
    rw read (subst (IsSheet zs) (sym (at.text ∙ no_front at.front at.sheet at.before)) at.is_sheet)
