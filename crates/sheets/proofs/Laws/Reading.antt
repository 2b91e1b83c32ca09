-- A sheet that is read is one, and one that is one is read.
-- Assumes nothing.
use Rattle.std.specs.Prelude.{◌≡◌, ℕ, ◌≤◌, ℤ, take, Err, Ok}
use Rattle.std.proofs.Math.Path.{refl, ap, ap₂}
use Rattle.std.proofs.Common.{sym, ◌∙◌, subst, length-take-le}
use mathlib.Core.List.{List, [], ◌++◌, append-nil}
use Rattle.std.proofs.Math.ListN.{length}
use Rattle.words.specs.Refusal.{TRAILER, done_if, Answer, Done, answer_of}
use Rattle.words.specs.Laws.Turns.{not_done, both_done, test_done}
use Rattle.fields.specs.Counts.{AllInRange}
use Rattle.sheets.specs.Text.{LINE_END, index_of, after_last, ended_by}
use Rattle.sheets.specs.List.{sheet_names, sheet_fields}
use Rattle.sheets.specs.Trailer.{MOST_BYTES, has_trailer, start_of, lines_bytes, trailer_text}
use Rattle.sheets.specs.Lines.{lines_in, numbers_in, body_answer}
use Rattle.sheets.specs.Sheet.{line_texts, SameLines, IsSheet, sheet_answer, sheet_is, sheet_by, sheet_read, sheet_numbers, sheet_before}
use Rattle.sheets.specs.Due.{EndsWith}
use Rattle.sheets.specs.Laws.Text.{Without, parts_back, parts_of, rest_of}
use Rattle.sheets.specs.Laws.Trailer.{trailer_start}
use Rattle.sheets.specs.Laws.Sheet.{start_within}
use Rattle.sheets.specs.Laws.Judging.{FineUpTo}
use Rattle.sheets.specs.Laws.Missing.{AllGiven}
use Rattle.sheets.specs.Laws.Verdicts.{has_ends, ends_lines, judged_lines}
use Rattle.sheets.proofs.Laws.Verdicts.{AllFine, all_fine_done, LinesView, nothing_due, something_due, lines_view, body_refused}
use Rattle.sheets.specs.Laws.Meaning.{fine_range, fine_same}
use Rattle.sheets.specs.Laws.Arranged.{arranged_without, arranged_fine, arranged_given, arranged_numbers}

-- ---- what is read

by_done : (a : Answer) (ys : List ℤ) (b : ℕ) (zs : List ℤ) (n : ℕ) → sheet_by a ys b ≡ sheet_is zs n → (a ≡ Done) × (ys ≡ zs) × (b ≡ n)
by_done (Ok _) ys b zs n e = (refl, ap sheet_numbers e, ap sheet_before e)
by_done (Err r) ys b zs n e = absurd (not_done r.number r.place (ap answer_of e))

-- lines that are not refused are fine
pub done_fine : (body : List ℕ) → body_answer body ≡ Done → AllFine body
done_fine body e = go (lines_view body)
  where
    go : LinesView body → AllFine body
    go (nothing_due a) = a
    go (something_due n p d) = absurd (not_done n p (sym (body_refused body n p d).0 ∙ e))

-- what is known of a sheet that is read
pub record WasRead (s : List ℕ) (zs : List ℤ) (n : ℕ) : Type 0 where
  pub ends : EndsWith s (take (start_of s) s) (lines_bytes s)
  pub fine : AllFine (lines_bytes s)
  pub numbers : numbers_in (lines_in (lines_bytes s)) ≡ zs
  pub before : length (take (start_of s) s) ≡ n

pub was_read : (s : List ℕ) (zs : List ℤ) (n : ℕ) → sheet_read s ≡ sheet_is zs n → WasRead s zs n
unfolding sheet_read
was_read s zs n e =
    let parts = by_done (sheet_answer s) (numbers_in (lines_in (lines_bytes s))) (start_of s) zs n e in
    let both = both_done (done_if (has_trailer s) TRAILER 0) (body_answer (lines_bytes s)) parts.0 in
    let has = test_done (has_trailer s) TRAILER 0 both.0 in
    record {
      ends = has_ends s has;
      fine = done_fine (lines_bytes s) both.1;
      numbers = parts.1;
      before = length-take-le (start_of s) s (start_within s) ∙ parts.2;
    }

-- lines that are fine, with nothing after them, are all there is
pub all_lines : (body : List ℕ) → after_last LINE_END body ≡ [] → body ≡ ended_by LINE_END (lines_in body)
all_lines body e =
    parts_back LINE_END body ∙ ap (λ (l : List ℕ). ended_by LINE_END (lines_in body) ++ l) e ∙ append-nil (ended_by LINE_END (lines_in body))

-- a sheet of lines that are the list's in another order
pub sheet_of : (zs : List ℤ) (body : List ℕ) → AllInRange sheet_fields zs → SameLines (lines_in body) (line_texts sheet_names zs)
    → after_last LINE_END body ≡ [] → length body ≤ MOST_BYTES → IsSheet zs (body ++ trailer_text (length body))
sheet_of zs body range same none few =
    let is = all_lines body none in
    record {
      within_range = range;
      lines = lines_in body;
      same_lines = same;
      few = subst (λ (l : List ℕ). length l ≤ MOST_BYTES) is few;
      text = ap (λ (l : List ℕ). l ++ trailer_text (length l)) is;
    }

pub fine_sheet : (s : List ℕ) (zs : List ℤ) (n : ℕ) → WasRead s zs n → AllInRange sheet_fields zs × SameLines (lines_in (lines_bytes s)) (line_texts sheet_names zs)
fine_sheet s zs n w =
    let lines = lines_in (lines_bytes s) in (
      subst (λ (ys : List ℤ). AllInRange sheet_fields ys) w.numbers (fine_range lines w.fine.each w.fine.given),
      subst (λ (ys : List ℤ). SameLines lines (line_texts sheet_names ys)) w.numbers (fine_same lines w.fine.each w.fine.given),
    )

-- ---- what is to be read

module _ (zs : List ℤ) (sheet : List ℕ) (is : IsSheet zs sheet) where
  abbrev body : List ℕ
  body = ended_by LINE_END is.lines

  without : Without LINE_END is.lines
  without = arranged_without zs is.within_range is.lines is.same_lines

  body_lines : lines_in body ≡ is.lines
  unfolding index_of
  body_lines = ap lines_in (sym (append-nil body)) ∙ parts_of LINE_END is.lines [] without refl

  body_rest : after_last LINE_END body ≡ []
  unfolding index_of
  body_rest = ap (after_last LINE_END) (sym (append-nil body)) ∙ rest_of LINE_END is.lines [] without refl

  body_fine : AllFine body
  body_fine = record {
    each = subst (λ (ls : List (List ℕ)). FineUpTo ls (length ls)) (sym body_lines) (arranged_fine zs is.within_range is.lines is.same_lines);
    no_rest = body_rest;
    given = subst (λ (ls : List (List ℕ)). AllGiven ls) (sym body_lines) (arranged_given zs is.within_range is.lines is.same_lines);
  }

  pub is_read : (front : List ℕ) → sheet_read (front ++ sheet) ≡ sheet_is zs (length front)
  unfolding sheet_read
  is_read front =
      let text : front ++ sheet ≡ front ++ (body ++ trailer_text (length body)) = ap (λ (l : List ℕ). front ++ l) is.text in
      let ends : EndsWith (front ++ sheet) front body = record { text = text; few = is.few } in
      let answer : sheet_answer (front ++ sheet) ≡ Done = judged_lines (front ++ sheet) front body ends ∙ all_fine_done body body_fine in
      let numbers : numbers_in (lines_in (lines_bytes (front ++ sheet))) ≡ zs =
      ap (λ (l : List ℕ). numbers_in (lines_in l)) (ends_lines (front ++ sheet) front body ends)
      ∙ ap numbers_in body_lines
      ∙ arranged_numbers zs is.within_range is.lines is.same_lines
      in
      let start : start_of (front ++ sheet) ≡ length front = ap start_of text ∙ trailer_start front body is.few in
      ap (λ (a : Answer). sheet_by a (numbers_in (lines_in (lines_bytes (front ++ sheet)))) (start_of (front ++ sheet))) answer
      ∙ ap₂ sheet_is numbers start
