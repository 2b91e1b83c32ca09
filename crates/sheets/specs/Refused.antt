-- THEOREMS: demand 1, the sheet: a refusal gives nothing else.
-- Assumes nothing.
use Rattle.std.specs.Prelude.{◌≡◌, List, [], ℕ, take, Err, Ok}
use Rattle.std.proofs.Common.{sym, ap, Result}
use Rattle.frames.specs.Due.{RefusesWith}
use Rattle.sheets.specs.Trailer.{start_of, lines_bytes}
use Rattle.sheets.specs.Lines.{lines_in, numbers_in}
use Rattle.sheets.specs.Sheet.{sheet_answer, sheet_by, sheet_read, before_sheet, sheet_before}
use Rattle.sheets.specs.declared.sheet.Sheet.{Sheet}
use Rattle.words.specs.Refusal.{Answer, refused_at}
use Rattle.words.specs.Laws.Turns.{refusal_is}
use Rattle.words.specs.declared.refusal.Refusal.{Refusal}

by_answer : (a : Answer) (s : List ℕ) (n p : ℕ) → RefusesWith a n p → sheet_by a (numbers_in (lines_in (lines_bytes s))) (start_of s) ≡ refused_at n p
by_answer (Ok u) s n p r = absurd (r.some (sym r.number_is))
by_answer (Err x) s n p r = ap Err (refusal_is x n p r.number_is r.place_is)

-- A refusal gives nothing else.
pub refused_only : (s : List ℕ) (n p : ℕ) → RefusesWith (sheet_answer s) n p → sheet_read s ≡ refused_at n p
unfolding sheet_read
refused_only s n p r = by_answer (sheet_answer s) s n p r

-- And the part before a sheet that is refused is empty.
pub refused_empty : (s : List ℕ) (n p : ℕ) → RefusesWith (sheet_answer s) n p → before_sheet s ≡ []
refused_empty s n p r = ap (λ (x : Result Sheet Refusal). take (sheet_before x) s) (refused_only s n p r)
