-- THEOREMS: demand 2, the sheet. Which bytes are read as a sheet, with which numbers; that the order of its lines says nothing; that each
-- name stands in it once.
-- Assumes nothing.
use Rattle.std.specs.Prelude.{◌≡◌, true, List, [], ◌++◌, ◌↔◌, ℕ, ◌<◌, ℤ, pos, length, get_or, take}
use Rattle.std.proofs.Common.{sym, ap, ◌∙◌, arith, lt-ltb, Result}
use Rattle.std.proofs.Math.Seq.{take-append_seam}
use Rattle.sheets.specs.Text.{LINE_END, after_last, occurrences}
use Rattle.sheets.specs.List.{sheet_names, position_in}
use Rattle.sheets.specs.Trailer.{start_of, lines_bytes, trailer_text}
use Rattle.sheets.specs.Lines.{name_in, is_listed, lines_in, numbers_in}
use Rattle.words.specs.declared.refusal.Refusal.{Refusal}
use Rattle.sheets.specs.Sheet.{line_text, line_texts, SameLines, IsSheet, SheetAt, OneLine, sheet_is, sheet_read, before_sheet, sheet_before}
use Rattle.sheets.specs.Due.{EndsWith}
use Rattle.sheets.specs.Laws.Judging.{listed_position}
use Rattle.sheets.specs.Laws.Meaning.{name_at, only_named, fine_text, line_of}
use Rattle.sheets.proofs.Laws.Reading.{was_read, fine_sheet, sheet_of, is_read}
use Rattle.sheets.specs.Laws.Verdicts.{ends_lines}
use Rattle.sheets.specs.declared.sheet.Sheet.{Sheet}

-- Bytes are read as a sheet of these numbers, with n bytes before it, exactly if they end with such a sheet.
pub read_exactly : (s : List ℕ) (zs : List ℤ) (n : ℕ) → (sheet_read s ≡ sheet_is zs n) ↔ SheetAt s zs n
read_exactly s zs n = (to, from)
  where
    to : sheet_read s ≡ sheet_is zs n → SheetAt s zs n
    to e =
        let w = was_read s zs n e in
        let both = fine_sheet s zs n w in
        record {
          front = take (start_of s) s;
          sheet = lines_bytes s ++ trailer_text (length (lines_bytes s));
          text = w.ends.text;
          before = w.before;
          is_sheet = sheet_of zs (lines_bytes s) both.0 both.1 w.fine.no_rest w.ends.few;
        }

    from : SheetAt s zs n → sheet_read s ≡ sheet_is zs n
    from a = ap sheet_read a.text ∙ is_read zs a.sheet a.is_sheet a.front ∙ ap (sheet_is zs) a.before

-- The part before the sheet is what stands before it.
pub before_exactly : (front sheet : List ℕ) (zs : List ℤ) → IsSheet zs sheet → before_sheet (front ++ sheet) ≡ front
before_exactly front sheet zs is =
    ap (λ (x : Result Sheet Refusal). take (sheet_before x) (front ++ sheet)) (is_read zs sheet is front) ∙ take-append_seam front sheet

-- Two sheets that differ only in the order of their lines are read the same.
pub any_order : (s t front other body mixed : List ℕ) (zs : List ℤ) (n : ℕ) → EndsWith s front body → EndsWith t other mixed
    → SameLines (lines_in mixed) (lines_in body) → after_last LINE_END mixed ≡ [] → sheet_read s ≡ sheet_is zs n
    → sheet_read t ≡ sheet_is zs (length other)
any_order s t front other body mixed zs n ends_s ends_t same none e =
    let w = was_read s zs n e in
    let both = fine_sheet s zs n w in
    let lines : lines_in (lines_bytes s) ≡ lines_in body = ap lines_in (ends_lines s front body ends_s) in
    let others : SameLines (lines_in mixed) (line_texts sheet_names zs) =
    record { each = λ (x : List ℕ). same.each x ∙ ap (occurrences x) (sym lines) ∙ both.1.each x }
    in
    ap sheet_read ends_t.text
    ∙ is_read zs (mixed ++ trailer_text (length mixed)) (sheet_of zs mixed both.0 others none ends_t.few) other

-- In a sheet that is read, each name of the list stands in exactly one line, and its number is the one read.
pub each_once : (s : List ℕ) (zs : List ℤ) (n : ℕ) → sheet_read s ≡ sheet_is zs n → (k : ℕ) → k < length sheet_names
    → OneLine (lines_in (lines_bytes s)) (get_or sheet_names k []) (get_or zs k (pos 0))
each_once s zs n e k h =
    let w = was_read s zs n e in
    let lines = lines_in (lines_bytes s) in
    let fine = w.fine in
    let g = fine.given k h in
    let at = line_of lines fine.each fine.given k h in
    record {
      index = g.index;
      inside = g.inside;
      says =
          fine_text lines fine.each g.index g.inside
          ∙ ap (λ (j : ℕ). line_text (name_at j) (get_or (numbers_in lines) j (pos 0))) at
          ∙ ap (λ (ys : List ℤ). line_text (name_at k) (get_or ys k (pos 0))) w.numbers;
      only = λ j b named. only_named lines fine.each j g.index b g.inside (named ∙ sym g.named);
    }

-- And each of its lines has a name of the list.
pub none_else : (s : List ℕ) (zs : List ℤ) (n : ℕ) → sheet_read s ≡ sheet_is zs n → (i : ℕ) → i < length (lines_in (lines_bytes s))
    → is_listed (name_in (get_or (lines_in (lines_bytes s)) i [])) ≡ true
none_else s zs n e i h =
    let lines = lines_in (lines_bytes s) in
    let f = (was_read s zs n e).fine.each i h in
    let name = name_in (get_or lines i []) in
    lt-ltb (position_in name sheet_names) (length sheet_names) (omega (arith, listed_position name f.index f.listed, f.listed.inside))
