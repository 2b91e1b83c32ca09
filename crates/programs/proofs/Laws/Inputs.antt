-- Input that is right is what is not refused.
-- Assumes nothing.
use Rattle.std.specs.Prelude.{◌≡◌, ℕ, eqb, leb, ltb, ℤ, length}
use Rattle.std.proofs.Math.Path.{sym, ap, ap₂}
use Rattle.std.proofs.Common.{◌∙◌, eqb-true, ltb-true}
use mathlib.Core.List.{List, ◌∷◌, ◌++◌}
use Rattle.words.specs.Refusal.{LENGTH, TRAILER, done_if, in_turn, Done}
use Rattle.words.specs.Laws.Turns.{both_done, test_done}
use Rattle.fields.specs.Pages.{PAGE_BITS}
use Rattle.frames.specs.Frame.{Contents}
use Rattle.frames.specs.Build.{contents_answer}
use Rattle.frames.specs.Laws.Good.{page_done, done_page}
use Rattle.sheets.specs.Text.{LINE_END, index_of}
use Rattle.sheets.specs.Trailer.{has_trailer, start_of, lines_bytes}
use Rattle.sheets.specs.Lines.{body_answer}
use Rattle.sheets.specs.Sheet.{IsSheet, sheet_answer, sheet_read, sheet_numbers}
use Rattle.sheets.specs.Contents.{numbers_of, CarriedBy}
use Rattle.sheets.specs.Carried.{numbers_contents}
use Rattle.programs.specs.Symbols.{first_other, symbols_in, symbols_answer}
use Rattle.programs.specs.Output.{symbol_line}
use Rattle.programs.specs.Building.{MOST_INPUT, IsInput, first_line, after_first, page_line_answer, carried_contents, sheet_contents, behind_answer, input_contents, input_answer}
use Rattle.programs.specs.Laws.Symbols.{symbols_long, every_bit, characters_again}
use Rattle.programs.specs.Laws.Due.{done_all}
use Rattle.programs.specs.Laws.Building.{carried_is, carried_answer, starts_with, done_sheet}
use Rattle.programs.proofs.Laws.Building.{sheet_there, right_page_on}
use Rattle.programs.specs.Laws.Lines.{first_cut, symbol_line_on}
use Rattle.programs.specs.Laws.Inputs.{page_agrees, after, right_page}

-- ---- right input is done

module _ (c : Contents) (input : List ℕ) (is : IsInput c input) where
  pub right_done : input_answer input ≡ Done
  right_done =
      right_page_on input (right_page c input is)
      ∙ ap₂ (λ (page bytes : List ℕ). behind_answer page bytes) (page_agrees c input is) (after c input is)
      ∙ sheet_there c.page is.sheet (numbers_of c) is.is_sheet
      ∙ page_done c.page is.good.page_1

-- ---- done input is right

module _ (input : List ℕ) (e : input_answer input ≡ Done) where
  abbrev page : List ℕ
  page = symbols_in (first_line input)

  abbrev bytes : List ℕ
  bytes = after_first input

  by_length : (in_turn (page_line_answer input) (behind_answer page bytes)) ≡ Done
  unfolding input_answer
  by_length = (both_done (done_if (leb (length input) MOST_INPUT) LENGTH 0) (in_turn (page_line_answer input) (behind_answer page bytes)) e).1

  by_page : (page_line_answer input ≡ Done) × (behind_answer page bytes ≡ Done)
  by_page = both_done (page_line_answer input) (behind_answer page bytes) by_length

  by_newline : (done_if (ltb (index_of LINE_END input) (length input)) LENGTH 0 ≡ Done) × (symbols_answer PAGE_BITS (first_line input) ≡ Done)
  by_newline =
      both_done (done_if (ltb (index_of LINE_END input) (length input)) LENGTH 0) (symbols_answer PAGE_BITS (first_line input)) by_page.0

  by_start : (done_if (eqb (start_of bytes) 0) TRAILER 0 ≡ Done) × (in_turn (sheet_answer bytes) (contents_answer (sheet_contents page bytes)) ≡ Done)
  by_start =
      both_done (done_if (eqb (start_of bytes) 0) TRAILER 0) (in_turn (sheet_answer bytes) (contents_answer (sheet_contents page bytes))) by_page.1

  by_sheet : (sheet_answer bytes ≡ Done) × (contents_answer (sheet_contents page bytes) ≡ Done)
  by_sheet = both_done (sheet_answer bytes) (contents_answer (sheet_contents page bytes)) by_start.1

  abbrev zs : List ℤ
  zs = sheet_numbers (sheet_read bytes)

  is_sheet : IsSheet zs bytes
  is_sheet =
      done_sheet bytes (lines_bytes bytes)
      (starts_with bytes
      (test_done (has_trailer bytes) TRAILER 0 (both_done (done_if (has_trailer bytes) TRAILER 0) (body_answer (lines_bytes bytes)) by_sheet.0).0)
      (eqb-true (start_of bytes) 0 (test_done (eqb (start_of bytes) 0) TRAILER 0 by_start.0)))
      by_sheet.0

  all : (length (first_line input) ≡ PAGE_BITS) × (first_other (first_line input) ≡ length (first_line input))
  all = done_all PAGE_BITS (first_line input) by_newline.1

  carried : CarriedBy zs page
  carried =
      numbers_contents zs page is_sheet.within_range (symbols_long (first_line input) ∙ all.0) (every_bit (first_line input) all.1)
      (done_page page (sym (carried_answer zs page is_sheet.within_range) ∙ by_sheet.1))

  contents_are : carried.contents ≡ input_contents input
  unfolding input_contents
  contents_are =
      sym (carried_is carried.contents) ∙ ap₂ (λ (ys : List ℤ) (l : List ℕ). carried_contents ys l) carried.numbers carried.page_agrees

  pub done_right : IsInput (input_contents input) input
  done_right = rw (sym contents_are) (record {
    good = carried.good;
    sheet = bytes;
    is_sheet = rw carried.numbers is_sheet;
    text =
        first_cut input
        (ltb-true (index_of LINE_END input) (length input) (test_done (ltb (index_of LINE_END input) (length input)) LENGTH 0 by_newline.0))
        ∙ ap (λ (l : List ℕ). l ++ LINE_END ∷ bytes) (sym (characters_again (first_line input) all.1))
        ∙ sym (symbol_line_on page bytes)
        ∙ ap (λ (l : List ℕ). symbol_line l ++ bytes) (sym carried.page_agrees);
  })
