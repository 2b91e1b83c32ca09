-- What is due for a sheet is refused, and a sheet that nothing is due for is done.
-- Assumes nothing.
use Rattle.std.specs.Prelude.{◌≡◌, refl, Bool, true, false, List, [], ◌∷◌, ◌≢◌, ℕ, suc, ◌+◌, ◌<◌, eqb, length, get_or, take}
use Rattle.std.proofs.Common.{sym, ap, ◌∙◌, arith, eq-eqb, ne_eqb}
use Rattle.std.proofs.Math.Path.{ap₂}
use Rattle.words.specs.Refusal.{TRAILER, LINE, refused_at, done_if, in_turn, Answer, Done}
use Rattle.frames.specs.Laws.Due.{Verdict, fine, due}
use Rattle.sheets.specs.Text.{LINE_END, after_last}
use Rattle.sheets.specs.Trailer.{has_trailer, start_of, lines_bytes}
use Rattle.sheets.specs.Lines.{lines_in, missing_answer, body_answer}
use Rattle.sheets.specs.Sheet.{sheet_answer}
use Rattle.sheets.specs.Due.{EndsWith, DueAt, line_place, LinesDue, line_due, end_due, missing_due, SheetDue, trailer_due, lines_due}
use Rattle.sheets.specs.Laws.Judging.{due_refused, FineUpTo, UpTo, fine_lines, first_due, up_to}
use Rattle.sheets.proofs.Laws.Judging.{line_refused, lines_end}
use Rattle.sheets.specs.Laws.Missing.{AllGiven, none_missing, missing_refused, MissingView, all_given, some_missing, missing_view}
use Rattle.sheets.specs.Laws.Verdicts.{ends_has, has_ends, judged_lines, no_trailer, before_fine, fine_before}

module _ (body : List ℕ) where
  abbrev lines : List (List ℕ)
  lines = lines_in body

  abbrev rest : List ℕ
  rest = after_last LINE_END body

  -- after lines that are fine
  ended : (t : Bool) (a : Answer) → FineUpTo lines (length lines) → eqb (length rest) 0 ≡ t → missing_answer lines ≡ a
      → body_answer body ≡ in_turn (done_if t LINE (line_place lines (length lines))) a
  unfolding body_answer
  ended t a all e f =
      lines_end lines rest all ∙ ap₂ (λ (x : Bool) (y : Answer). in_turn (done_if x LINE (line_place lines (length lines))) y) e f

  empty_rest : rest ≡ [] → eqb (length rest) 0 ≡ true
  empty_rest e = eq-eqb (length rest) 0 (ap (λ (l : List ℕ). length l) e)

  -- the first line that something is due for
  pub body_at : (i n : ℕ) → i < length lines → FineUpTo lines i → DueAt lines i n → body_answer body ≡ refused_at n (line_place lines i)
  unfolding body_answer
  body_at i n h all d = line_refused lines rest i n h all d

  pub body_refused : (n p : ℕ) → LinesDue body n p → (body_answer body ≡ refused_at n p) × (n ≢ 0)
  body_refused n p (line_due i m h none d) = (
    body_at i m h (before_fine lines i none) d,
    (due_refused (take i lines) 0 (get_or lines i []) m d).1,
  )
  body_refused n p (end_due none some) = (
    ended false (missing_answer lines) (before_fine lines (length lines) none) (ne_eqb (length rest) 0 (λ e. some (no_bytes rest e))) refl,
    λ e. omega arith,
  )
    where
      no_bytes : (l : List ℕ) → length l ≡ 0 → l ≡ []
      no_bytes [] e = refl
      no_bytes (b ∷ l) e = absurd (omega arith)
  body_refused n p (missing_due k none e m) = (
    ended true (refused_at 15 (k + 1)) (before_fine lines (length lines) none) (empty_rest e) (missing_refused lines k m),
    λ z. omega arith,
  )

  -- what is left where nothing is due: every line is fine, nothing stands after the last one's end, and every name is given
  pub record AllFine : Type 0 where
    pub each : FineUpTo lines (length lines)
    pub no_rest : rest ≡ []
    pub given : AllGiven lines

  pub all_fine_done : AllFine → body_answer body ≡ Done
  all_fine_done a = ended true Done a.each (empty_rest a.no_rest) (none_missing lines a.given)

  pub data LinesView : Type 0 where
    nothing_due : AllFine → LinesView
    something_due : (n p : ℕ) → LinesDue body n p → LinesView

  pub lines_view : LinesView
  lines_view = by_lines (up_to lines (length lines))
    where
      by_missing : FineUpTo lines (length lines) → rest ≡ [] → MissingView lines → LinesView
      by_missing all e (all_given g) = nothing_due (record { each = all; no_rest = e; given = g })
      by_missing all e (some_missing k m) = something_due 15 (k + 1) (missing_due k (fine_before lines (length lines) all) e m)

      by_rest : FineUpTo lines (length lines) → (l : List ℕ) → rest ≡ l → LinesView
      by_rest all [] e = by_missing all e (missing_view lines)
      by_rest all (b ∷ l) e =
          something_due LINE (line_place lines (length lines))
          (end_due (fine_before lines (length lines) all)
          (λ none. let z : ◌≡◌ {A = ℕ} (suc (length l)) 0 = ap (λ (m : List ℕ). length m) (sym e ∙ none) in omega arith))

      by_lines : UpTo lines (length lines) → LinesView
      by_lines (fine_lines all) = by_rest all rest refl
      by_lines (first_due j n h all d) = something_due n (line_place lines j) (line_due j n h (fine_before lines j all) d)

-- ---- the sheet

pub sheet_due_refused : (s : List ℕ) (n p : ℕ) → SheetDue s n p → (sheet_answer s ≡ refused_at n p) × (n ≢ 0)
sheet_due_refused s n p (trailer_due none) = (no_trailer s none, λ e. omega arith)
sheet_due_refused s n p (lines_due m q front body e d) =
    let r = body_refused body m q d in
    (judged_lines s front body e ∙ r.0, r.1)

pub sheet_verdict : (s : List ℕ) → Verdict (sheet_answer s) (SheetDue s)
sheet_verdict s = by_trailer (has_trailer s) refl
  where
    by_view : (e : EndsWith s (take (start_of s) s) (lines_bytes s)) → LinesView (lines_bytes s) → Verdict (sheet_answer s) (SheetDue s)
    by_view e (nothing_due a) = fine (judged_lines s (take (start_of s) s) (lines_bytes s) e ∙ all_fine_done (lines_bytes s) a)
    by_view e (something_due n p d) = due n p (lines_due n p (take (start_of s) s) (lines_bytes s) e d)

    by_trailer : (t : Bool) → has_trailer s ≡ t → Verdict (sheet_answer s) (SheetDue s)
    by_trailer true h = by_view (has_ends s h) (lines_view (lines_bytes s))
    by_trailer false h =
        due TRAILER 0
        (trailer_due (λ front body e. let z : ◌≡◌ {A = Bool} true false = sym (ends_has s front body e) ∙ h in let c : ◌≡◌ {A = ℕ} 0 1 = cc in omega arith))
