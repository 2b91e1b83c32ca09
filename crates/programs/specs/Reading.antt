-- The way back: 1800 characters 0 or 1 and a newline; printed are the number of time symbols corrected, and the page line and the sheet
-- that the bench program would take; or the first refusal.
-- Assumes nothing.
use Rattle.std.specs.Prelude.{◌≡◌, List, ◌∷◌, ◌++◌, ℕ, ◌-◌, eqb, length, get_or, take}
use Rattle.words.specs.Refusal.{LENGTH, done_if, in_turn, Answer}
use Rattle.words.specs.Time.{time_read, corrected_read}
use Rattle.frames.specs.Frame.{Contents, GoodContents, ReadableAs, FRAME, time_in}
use Rattle.frames.specs.Read.{frame_answer, contents_in}
use Rattle.sheets.specs.Text.{LINE_END, bytes_in}
use Rattle.sheets.specs.Number.{decimal}
use Rattle.sheets.specs.Write.{sheet_text}
use Rattle.sheets.specs.Contents.{numbers_of}
use Rattle.programs.specs.Symbols.{symbols_in, symbols_answer}
use Rattle.programs.specs.Output.{symbol_line, text_by}

-- ---- what is printed for contents

-- an input of the bench program for these contents: the page line, and the sheet in the list's order
unfoldable pub input_text : Contents → List ℕ
input_text c = symbol_line c.page ++ sheet_text (numbers_of c)

-- the line `corrected N`, and that input
unfoldable pub contents_text : Contents → ℕ → List ℕ
contents_text c corrected = bytes_in "corrected " ++ (decimal corrected ++ LINE_END ∷ input_text c)

-- the input is the symbols of a frame that stands for these contents, with so many of its time symbols to correct
pub record IsFrameLine (c : Contents) (corrected : ℕ) (input : List ℕ) : Type 0 where
  pub symbols : List ℕ
  pub text : input ≡ symbol_line symbols
  pub good : GoodContents c
  pub readable : ReadableAs c corrected symbols

-- ---- judging the input

-- the input without its last byte
unfoldable pub frame_line : List ℕ → List ℕ
frame_line input = take (length input - 1) input

-- judging the line: 1 at 0 unless a newline is the last byte and 1800 characters stand before it, then 2 at the index of another character
abbrev pub frame_line_answer : List ℕ → Answer
frame_line_answer input =
    in_turn (done_if (eqb (get_or input (length input - 1) 0) LINE_END) LENGTH 0) (symbols_answer FRAME (frame_line input))

-- judging the input: the line, then the frame
unfoldable pub frame_input_answer : List ℕ → Answer
frame_input_answer input = in_turn (frame_line_answer input) (frame_answer (symbols_in (frame_line input)))

-- what is printed
unfoldable pub printed_sheet : List ℕ → List ℕ
printed_sheet input =
    text_by (frame_input_answer input)
    (contents_text (contents_in (symbols_in (frame_line input))) (corrected_read (time_read (time_in (symbols_in (frame_line input))))))
