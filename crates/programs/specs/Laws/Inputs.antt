-- Input that is right has a right page line, and its contents are those that it was written for.
-- Assumes nothing.
use Rattle.std.specs.Prelude.{◌≡◌, ℕ, length}
use Rattle.std.proofs.Math.Path.{ap, ap₂}
use Rattle.std.proofs.Common.{◌∙◌, arith, length-append, Result}
use mathlib.Core.List.{List, [], ◌∷◌, ◌++◌}
use Rattle.frames.specs.Frame.{Contents}
use Rattle.sheets.specs.Sheet.{sheet_numbers}
use Rattle.sheets.specs.Text.{LINE_END, ended_by}
use Rattle.sheets.specs.Trailer.{trailer_text}
use Rattle.sheets.specs.Contents.{numbers_of}
use Rattle.sheets.proofs.Laws.Reading.{is_read}
use Rattle.sheets.specs.Laws.Trailer.{trailer_long}
use Rattle.sheets.specs.declared.sheet.Sheet.{Sheet}
use Rattle.programs.specs.Symbols.{symbols_in, characters_of}
use Rattle.programs.specs.Output.{symbol_line}
use Rattle.programs.specs.Building.{IsInput, first_line, after_first, carried_contents, sheet_contents, input_contents}
use Rattle.programs.specs.Due.{RightPageLine}
use Rattle.programs.specs.Laws.Symbols.{characters_long, all_at, characters_all, symbols_again}
use Rattle.programs.specs.Laws.Building.{carried_is}
use Rattle.programs.specs.Laws.Lines.{first_is, after_is, has_newline, no_newline_in, symbol_line_on, symbol_line_long}
use Rattle.words.specs.declared.refusal.Refusal.{Refusal}

-- ---- right input is done

module _ (c : Contents) (input : List ℕ) (is : IsInput c input) where
  cut : input ≡ characters_of c.page ++ LINE_END ∷ is.sheet
  cut = is.text ∙ symbol_line_on c.page is.sheet

  first : first_line input ≡ characters_of c.page
  first = ap first_line cut ∙ first_is (characters_of c.page) is.sheet (no_newline_in c.page)

  pub page_agrees : symbols_in (first_line input) ≡ c.page
  page_agrees = ap symbols_in first ∙ symbols_again c.page

  pub after : after_first input ≡ is.sheet
  after = ap after_first cut ∙ after_is (characters_of c.page) is.sheet (no_newline_in c.page)

  pub right_page : RightPageLine input
  right_page = record {
    few =
        omega (
          arith,
          ap length is.text,
          length-append (symbol_line c.page) is.sheet,
          symbol_line_long c.page,
          is.good.long,
          ap length is.is_sheet.text,
          length-append (ended_by LINE_END is.is_sheet.lines) (trailer_text (length (ended_by LINE_END is.is_sheet.lines))),
          trailer_long (length (ended_by LINE_END is.is_sheet.lines)),
          is.is_sheet.few,
        );
    newline = rw cut (has_newline (characters_of c.page) is.sheet (no_newline_in c.page));
    symbols = rw first (record {
      long = characters_long c.page ∙ is.good.long;
      each = λ k inside. all_at (characters_of c.page) k (characters_all c.page is.good.bits) inside;
    });
  }

  pub right_contents : input_contents input ≡ c
  unfolding input_contents
  right_contents =
      ap₂ (λ (page bytes : List ℕ). sheet_contents page bytes) page_agrees after
      ∙ ap (λ (x : Result Sheet Refusal). carried_contents (sheet_numbers x) c.page) (is_read (numbers_of c) is.sheet is.is_sheet [])
      ∙ carried_is c
