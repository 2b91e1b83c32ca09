-- The trailer of a sheet, and the lines before one that something is due for.
-- Assumes nothing.
use Rattle.std.specs.Prelude.{◌≡◌, refl, Bool, true, false, List, [], ℕ, get_or, take}
use Rattle.std.proofs.Common.{ap, ◌∙◌}
use Rattle.std.proofs.Math.Path.{ap₂}
use Rattle.words.specs.Refusal.{TRAILER, refused_at, done_if, in_turn}
use Rattle.sheets.specs.Trailer.{has_trailer, start_of, lines_bytes}
use Rattle.sheets.specs.Lines.{body_answer}
use Rattle.sheets.specs.Sheet.{sheet_answer}
use Rattle.sheets.specs.Due.{EndsWith, FineBefore}
use Rattle.sheets.specs.Laws.Trailer.{trailer_has, trailer_lines, trailer_only, trailer_few}
use Rattle.sheets.specs.Laws.Judging.{Fine, LineView, is_fine, is_due, line_view, fine_not_due, FineUpTo}

-- ---- the trailer

pub ends_has : (s front body : List ℕ) → EndsWith s front body → has_trailer s ≡ true
ends_has s front body e = ap has_trailer e.text ∙ trailer_has front body e.few

pub ends_lines : (s front body : List ℕ) → EndsWith s front body → lines_bytes s ≡ body
ends_lines s front body e = ap lines_bytes e.text ∙ trailer_lines front body e.few

pub has_ends : (s : List ℕ) → has_trailer s ≡ true → EndsWith s (take (start_of s) s) (lines_bytes s)
has_ends s h = record { text = trailer_only s h; few = trailer_few s h }

-- a sheet with a trailer is judged by its lines
pub judged_lines : (s front body : List ℕ) → EndsWith s front body → sheet_answer s ≡ body_answer body
judged_lines s front body e =
    ap₂ (λ (t : Bool) (l : List ℕ). in_turn (done_if t TRAILER 0) (body_answer l)) (ends_has s front body e) (ends_lines s front body e)

-- one without is refused
pub no_trailer : (s : List ℕ) → ((front body : List ℕ) → EndsWith s front body → ⊥) → sheet_answer s ≡ refused_at TRAILER 0
no_trailer s none = go (has_trailer s) refl
  where
    go : (t : Bool) → has_trailer s ≡ t → sheet_answer s ≡ refused_at TRAILER 0
    go true e = absurd (none (take (start_of s) s) (lines_bytes s) (has_ends s e))
    go false e = ap (λ (t : Bool). in_turn (done_if t TRAILER 0) (body_answer (lines_bytes s))) e

-- ---- the lines

-- lines that nothing is due for are fine
pub before_fine : (lines : List (List ℕ)) (i : ℕ) → FineBefore lines i → FineUpTo lines i
before_fine lines i none j h = go (line_view (take j lines) (get_or lines j []))
  where
    go : LineView (take j lines) (get_or lines j []) → Fine (take j lines) (get_or lines j [])
    go (is_fine f) = f
    go (is_due n d) = absurd (none j n h d)

pub fine_before : (lines : List (List ℕ)) (i : ℕ) → FineUpTo lines i → FineBefore lines i
fine_before lines i all j n h d = fine_not_due (take j lines) (get_or lines j []) n (all j h) d
