-- The bench program (document 01, "The bench program"): 250 characters 0 or 1 and a newline, then one sheet that reaches to the end of
-- input; the frame is printed, or the first refusal in document 01's order.
-- Assumes nothing.
use Rattle.std.specs.Prelude.{◌≡◌, List, ◌++◌, ℕ, ◌+◌, eqb, leb, ltb, ℤ, pos, length, get_or, take, drop}
use Rattle.std.specs.Int.Signed.{mag}
use Rattle.words.specs.Refusal.{LENGTH, TRAILER, done_if, in_turn, Answer}
use Rattle.fields.specs.Pages.{PAGE_BITS}
use Rattle.frames.specs.Frame.{Contents, GoodContents, IsFrame, frame_of}
use Rattle.frames.specs.Build.{contents_of, contents_answer}
use Rattle.sheets.specs.Text.{LINE_END, index_of}
use Rattle.sheets.specs.Trailer.{start_of}
use Rattle.sheets.specs.Sheet.{IsSheet, sheet_answer, sheet_read, sheet_numbers}
use Rattle.sheets.specs.Contents.{numbers_of}
use Rattle.programs.specs.Symbols.{symbols_in, symbols_answer}
use Rattle.programs.specs.Output.{symbol_line, text_by}

-- ---- what the input means

-- the input is right for these contents: good ones, their page as a line, and right after it a sheet of their numbers
pub record IsInput (c : Contents) (input : List ℕ) : Type 0 where
  pub good : GoodContents c
  pub sheet : List ℕ
  pub is_sheet : IsSheet (numbers_of c) sheet
  pub text : input ≡ symbol_line c.page ++ sheet

-- and f is their frame
pub record InputFor (f input : List ℕ) : Type 0 where
  pub contents : Contents
  pub is_input : IsInput contents input
  pub is_frame : IsFrame contents f

-- ---- judging it

-- input over 8192 bytes is refused
abbrev pub MOST_INPUT : ℕ
MOST_INPUT = 8192

-- the first line, which is the page line, without its newline
unfoldable pub first_line : List ℕ → List ℕ
first_line input = take (index_of LINE_END input) input

-- the bytes after the first line
unfoldable pub after_first : List ℕ → List ℕ
after_first input = drop (index_of LINE_END input + 1) input

-- judging the page line: 1 at 0 without its newline or with another length, then 2 at the index of another character
abbrev pub page_line_answer : List ℕ → Answer
page_line_answer input = in_turn (done_if (ltb (index_of LINE_END input) (length input)) LENGTH 0) (symbols_answer PAGE_BITS (first_line input))

-- the contents that a sheet's numbers, toi's first, and page bits are
abbrev pub carried_contents : List ℤ → List ℕ → Contents
carried_contents zs page = contents_of (mag (get_or zs 0 (pos 0))) (drop 1 zs) page

-- those of the sheet in the bytes after the page line
abbrev pub sheet_contents : List ℕ → List ℕ → Contents
sheet_contents page bytes = carried_contents (sheet_numbers (sheet_read bytes)) page

-- judging those bytes: 10 at 0 unless the sheet begins right there, then the sheet, then the frame
abbrev pub behind_answer : List ℕ → List ℕ → Answer
behind_answer page bytes =
    in_turn (done_if (eqb (start_of bytes) 0) TRAILER 0) (in_turn (sheet_answer bytes) (contents_answer (sheet_contents page bytes)))

-- the contents of the input
unfoldable pub input_contents : List ℕ → Contents
input_contents input = sheet_contents (symbols_in (first_line input)) (after_first input)

-- judging the input: its length, the page line, the sheet, the frame
unfoldable pub input_answer : List ℕ → Answer
input_answer input =
    in_turn (done_if (leb (length input) MOST_INPUT) LENGTH 0)
    (in_turn (page_line_answer input) (behind_answer (symbols_in (first_line input)) (after_first input)))

-- what is printed
unfoldable pub printed_frame : List ℕ → List ℕ
printed_frame input = text_by (input_answer input) (symbol_line (frame_of (input_contents input)))
