-- THEOREMS: demand 1, the sheet. Which sheets are refused, with which number, where.
-- Assumes nothing.
use Rattle.std.specs.Prelude.{List, [], ◌↔◌, ◌≢◌, ℕ, ◌<◌, length, get_or, take}
use Rattle.std.proofs.Common.{ap, ◌∙◌, arith}
use Rattle.words.specs.Refusal.{NAME, number_of, place_of}
use Rattle.frames.specs.Due.{RefusesWith}
use Rattle.frames.specs.Laws.Due.{refused_by}
use Rattle.sheets.specs.Lines.{lines_in}
use Rattle.sheets.specs.Sheet.{sheet_answer}
use Rattle.sheets.specs.Due.{EndsWith, name_due, line_place, DueAt, SheetDue, UnknownAt, RefusedUpTo, at_its_line, at_a_line_before}
use Rattle.sheets.specs.Laws.Judging.{due_refused, name_only, FineUpTo, UpTo, fine_lines, first_due, up_to}
use Rattle.sheets.specs.Laws.Verdicts.{judged_lines}
use Rattle.sheets.proofs.Laws.Verdicts.{body_at, sheet_due_refused, sheet_verdict}

-- A sheet is refused with number n at p exactly where that is due.
pub sheet_refused_exactly : (s : List ℕ) (n p : ℕ) → RefusesWith (sheet_answer s) n p ↔ SheetDue s n p
sheet_refused_exactly s n p = refused_by (sheet_answer s) (SheetDue s) (sheet_due_refused s) (sheet_verdict s) n p

-- A sheet with a name that is not on the list is refused 12 at the first such line, unless something judged before it is refused first.
pub unknown_refused : (s front body : List ℕ) (i : ℕ) → EndsWith s front body → UnknownAt (lines_in body) i
    → ((j : ℕ) → j < i → UnknownAt (lines_in body) j → ⊥) → RefusedUpTo s (lines_in body) i
unknown_refused s front body i ends unknown first = go (up_to (lines_in body) i)
  where
    refused : (j n : ℕ) → j < length (lines_in body) → FineUpTo (lines_in body) j → DueAt (lines_in body) j n
        → RefusesWith (sheet_answer s) n (line_place (lines_in body) j)
    refused j n h all d =
        let is = judged_lines s front body ends ∙ body_at body j n h all d in
        record { number_is = ap number_of is; place_is = ap place_of is; some = (due_refused (take j (lines_in body)) 0 (get_or (lines_in body) j []) n d).1 }

    other : (j n : ℕ) → j < i → DueAt (lines_in body) j n → n ≢ NAME
    other j n h d e =
        let name = name_only (take j (lines_in body)) (get_or (lines_in body) j []) n d e in
        first j h (record { inside = omega (arith, unknown.inside); has = name.0; unlisted = name.1 })

    go : UpTo (lines_in body) i → RefusedUpTo s (lines_in body) i
    go (fine_lines all) = at_its_line (refused i NAME unknown.inside all (name_due unknown.has unknown.unlisted))
    go (first_due j n h all d) = at_a_line_before j n h d (other j n h d) (refused j n (omega (arith, unknown.inside)) all d)
