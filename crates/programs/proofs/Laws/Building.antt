-- The input of the bench program: what is refused is what is due, and what is not refused is right.
-- Assumes nothing.
use Rattle.std.specs.Prelude.{◌≡◌, refl, Bool, true, false, List, [], ◌⊎◌, ◌≢◌, ℕ, ◌≤◌, ◌<◌, eqb, ℤ, length}
use Rattle.std.proofs.Common.{sym, ap₂, ◌∙◌, inl, inr, arith, eq-eqb, ne_eqb, le-leb, lt-ltb, le-ltb, Result}
use Rattle.std.proofs.Math.Path.{ap}
use Rattle.std.proofs.lemmas.Bool.{lt-leb}
use Rattle.words.specs.Refusal.{LENGTH, FIELD_3, TRAILER, refused_at, done_if, in_turn, Answer, answer_of}
use Rattle.tables.specs.Laws.Cases.{same_or_not, before_or_not}
use Rattle.tables.specs.declared.matrix.Subframe.TheVariants.{Three}
use Rattle.fields.specs.Pages.{PAGE_BITS, range_answer}
use Rattle.frames.specs.Build.{contents_answer}
use Rattle.frames.specs.Laws.Due.{Verdict, fine, due, RangeView, ranges_fine, range_out, range_view, field_out_refused}
use Rattle.sheets.specs.Text.{LINE_END, index_of, ended_by}
use Rattle.sheets.specs.Trailer.{has_trailer, start_of, lines_bytes}
use Rattle.sheets.specs.Lines.{body_answer}
use Rattle.sheets.specs.Sheet.{IsSheet, sheet_answer, sheet_is, sheet_read, sheet_numbers}
use Rattle.sheets.specs.Due.{EndsWith}
use Rattle.sheets.proofs.Laws.Reading.{is_read}
use Rattle.sheets.specs.Laws.Verdicts.{ends_has, judged_lines}
use Rattle.sheets.proofs.Laws.Verdicts.{body_refused, LinesView, nothing_due, something_due, lines_view, all_fine_done}
use Rattle.sheets.specs.declared.sheet.Sheet.{Sheet}
use Rattle.programs.specs.Symbols.{symbols_in, symbols_answer}
use Rattle.programs.specs.Building.{MOST_INPUT, first_line, after_first, page_line_answer, carried_contents, sheet_contents, behind_answer, input_answer}
use Rattle.programs.specs.Due.{SymbolsDue, HasNewline, RightPageLine, InputDue, long_due, newline_due, page_line_due, start_due, lines_due, page_due}
use Rattle.programs.specs.Laws.Due.{symbols_due_refused, symbols_verdict, characters_done, done_characters}
use Rattle.programs.specs.Laws.Building.{carried_answer, starts, starts_with, read_answer, done_sheet}
use Rattle.words.specs.declared.refusal.Refusal.{Refusal}

-- it does, or not
data StartView (bytes : List ℕ) : Type 0 where
  there : (body : List ℕ) → EndsWith bytes [] body → StartView bytes
  elsewhere : ((body : List ℕ) → EndsWith bytes [] body → ⊥) → StartView bytes

start_view : (bytes : List ℕ) → StartView bytes
start_view bytes = go (has_trailer bytes) refl (same_or_not (start_of bytes) 0)
  where
    go : (t : Bool) → has_trailer bytes ≡ t → (start_of bytes ≡ 0) ⊎ (start_of bytes ≢ 0) → StartView bytes
    go true h (inl e) = there (lines_bytes bytes) (starts_with bytes h e)
    go true h (inr ne) = elsewhere (λ body ends. ne (starts bytes body ends))
    go false h s = elsewhere none
      where
        none : (body : List ℕ) → EndsWith bytes [] body → ⊥
        none body ends =
            let z : ◌≡◌ {A = Bool} true false = sym (ends_has bytes [] body ends) ∙ h in
            let c : ◌≡◌ {A = ℕ} 0 1 = cc in
            omega arith

-- ---- the bytes after the page line

module _ (page bytes : List ℕ) where
  abbrev judged_sheet : Answer
  judged_sheet = in_turn (sheet_answer bytes) (contents_answer (sheet_contents page bytes))

  abbrev by_start : Bool → Answer
  by_start t = in_turn (done_if t TRAILER 0) judged_sheet

  either : (t : Bool) → judged_sheet ≡ refused_at TRAILER 0 → by_start t ≡ refused_at TRAILER 0
  either true e = e
  either false e = refl

  -- a sheet that begins right there is judged
  pub starts_there : (body : List ℕ) → EndsWith bytes [] body → behind_answer page bytes ≡ judged_sheet
  starts_there body ends = ap by_start (eq-eqb (start_of bytes) 0 (starts bytes body ends))

  -- another is refused
  starts_elsewhere : ((body : List ℕ) → EndsWith bytes [] body → ⊥) → behind_answer page bytes ≡ refused_at TRAILER 0
  starts_elsewhere none = by_trailer (has_trailer bytes) refl
    where
      by_trailer : (t : Bool) → has_trailer bytes ≡ t → behind_answer page bytes ≡ refused_at TRAILER 0
      by_trailer true h = ap by_start (ne_eqb (start_of bytes) 0 (λ e. none (lines_bytes bytes) (starts_with bytes h e)))
      by_trailer false h =
          either (eqb (start_of bytes) 0)
          (ap (λ (t : Bool). in_turn (in_turn (done_if t TRAILER 0) (body_answer (lines_bytes bytes))) (contents_answer (sheet_contents page bytes))) h)

  -- the sheet is done with these numbers, and the page is judged
  pub sheet_there : (zs : List ℤ) → IsSheet zs bytes → behind_answer page bytes ≡ range_answer page
  sheet_there zs is =
      let read : sheet_read bytes ≡ sheet_is zs 0 = is_read zs bytes is [] in
      starts_there (ended_by LINE_END is.lines) (record { text = is.text; few = is.few })
      ∙ ap₂ (λ (a : Answer) (x : Result Sheet Refusal). in_turn a (contents_answer (carried_contents (sheet_numbers x) page)))
      (sym (read_answer bytes) ∙ ap answer_of read) read
      ∙ carried_answer zs page is.within_range

-- ---- the input

module _ (input : List ℕ) where
  abbrev page : List ℕ
  page = symbols_in (first_line input)

  abbrev behind : Answer
  behind = behind_answer page (after_first input)

  -- too long
  too_long : MOST_INPUT < length input → input_answer input ≡ refused_at LENGTH 0
  unfolding input_answer
  too_long h = ap (λ (t : Bool). in_turn (done_if t LENGTH 0) (in_turn (page_line_answer input) behind)) (lt-leb (length input) MOST_INPUT h)

  module _ (few : length input ≤ MOST_INPUT) where
    few_on : input_answer input ≡ in_turn (page_line_answer input) behind
    unfolding input_answer
    few_on = ap (λ (t : Bool). in_turn (done_if t LENGTH 0) (in_turn (page_line_answer input) behind)) (le-leb (length input) MOST_INPUT few)

    abbrev by_newline : Bool → Answer
    by_newline t = in_turn (in_turn (done_if t LENGTH 0) (symbols_answer PAGE_BITS (first_line input))) behind

    no_newline : (HasNewline input → ⊥) → input_answer input ≡ refused_at LENGTH 0
    no_newline none = few_on ∙ ap by_newline (le-ltb (index_of LINE_END input) (length input) (omega (arith, none)))

    newline_on : HasNewline input → input_answer input ≡ in_turn (symbols_answer PAGE_BITS (first_line input)) behind
    newline_on newline = few_on ∙ ap by_newline (lt-ltb (index_of LINE_END input) (length input) newline)

  pub right_page_on : RightPageLine input → input_answer input ≡ behind
  right_page_on right =
      newline_on right.few right.newline
      ∙ ap (λ (a : Answer). in_turn a behind) (characters_done PAGE_BITS (first_line input) right.symbols)

  -- what is due is refused
  pub input_due_refused : (n p : ℕ) → InputDue input n p → (input_answer input ≡ refused_at n p) × (n ≢ 0)
  input_due_refused n p (long_due h) = (too_long h, λ e. omega arith)
  input_due_refused n p (newline_due few none) = (no_newline few none, λ e. omega arith)
  input_due_refused n p (page_line_due m q few newline d) =
      let is = symbols_due_refused PAGE_BITS (first_line input) m q d in
      (newline_on few newline ∙ ap (λ (a : Answer). in_turn a behind) is.0, is.1)
  input_due_refused n p (start_due right none) = (right_page_on right ∙ starts_elsewhere page (after_first input) none, λ e. omega arith)
  input_due_refused n p (lines_due m q body right ends d) =
      let is = body_refused body m q d in (
        right_page_on right
            ∙ starts_there page (after_first input) body ends
            ∙ ap (λ (a : Answer). in_turn a (contents_answer (sheet_contents page (after_first input))))
            (judged_lines (after_first input) [] body ends ∙ is.0),
        is.1,
      )
  input_due_refused n p (page_due q zs right is out) =
      (right_page_on right ∙ sheet_there page (after_first input) zs is ∙ field_out_refused Three page q out, λ e. omega arith)

  -- the input is done, or something is due
  pub input_verdict : Verdict (input_answer input) (InputDue input)
  input_verdict = by_length (before_or_not MOST_INPUT (length input))
    where
      by_page : RightPageLine input → (zs : List ℤ) → IsSheet zs (after_first input) → RangeView Three page → Verdict (input_answer input) (InputDue input)
      by_page right zs is (ranges_fine e) = fine (right_page_on right ∙ sheet_there page (after_first input) zs is ∙ e)
      by_page right zs is (range_out p out) = due FIELD_3 p (page_due p zs right is out)

      by_lines : RightPageLine input → (body : List ℕ) → EndsWith (after_first input) [] body → LinesView body → Verdict (input_answer input) (InputDue input)
      by_lines right body ends (nothing_due all) =
          let done = judged_lines (after_first input) [] body ends ∙ all_fine_done body all in
          by_page right (sheet_numbers (sheet_read (after_first input))) (done_sheet (after_first input) body ends done) (range_view Three page)
      by_lines right body ends (something_due n p d) = due n p (lines_due n p body right ends d)

      by_start : RightPageLine input → StartView (after_first input) → Verdict (input_answer input) (InputDue input)
      by_start right (there body ends) = by_lines right body ends (lines_view body)
      by_start right (elsewhere none) = due TRAILER 0 (start_due right none)

      by_symbols : length input ≤ MOST_INPUT → HasNewline input → Verdict (symbols_answer PAGE_BITS (first_line input)) (SymbolsDue PAGE_BITS (first_line input))
          → Verdict (input_answer input) (InputDue input)
      by_symbols few newline (fine e) =
          by_start (record { few = few; newline = newline; symbols = done_characters PAGE_BITS (first_line input) e }) (start_view (after_first input))
      by_symbols few newline (due n p d) = due n p (page_line_due n p few newline d)

      by_newline_there : length input ≤ MOST_INPUT → (index_of LINE_END input < length input) ⊎ (length input ≤ index_of LINE_END input)
          → Verdict (input_answer input) (InputDue input)
      by_newline_there few (inl newline) = by_symbols few newline (symbols_verdict PAGE_BITS (first_line input))
      by_newline_there few (inr none) = due LENGTH 0 (newline_due few (λ h. omega arith))

      by_length : (MOST_INPUT < length input) ⊎ (length input ≤ MOST_INPUT) → Verdict (input_answer input) (InputDue input)
      by_length (inl h) = due LENGTH 0 (long_due h)
      by_length (inr few) = by_newline_there few (before_or_not (index_of LINE_END input) (length input))
