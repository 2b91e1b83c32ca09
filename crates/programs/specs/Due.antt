-- When each refusal of the programs is due (document 01, "The bench program" and "Numbers given on refusal"), each number by its own rule, in
-- document 01's order.
-- Assumes nothing.
use Rattle.std.specs.Prelude.{◌≡◌, true, false, List, [], ◌≢◌, ℕ, ◌-◌, ◌≤◌, ◌<◌, ℤ, length, get_or}
use Rattle.words.specs.Refusal.{LENGTH, NOT_A_BIT, FIELD_3, TRAILER, NAME}
use Rattle.tables.specs.declared.matrix.Subframe.TheVariants.{Three}
use Rattle.fields.specs.Pages.{PAGE_BITS}
use Rattle.frames.specs.Frame.{FRAME}
use Rattle.frames.specs.Due.{FieldOutAt, FrameDue}
use Rattle.sheets.specs.Text.{LINE_END, index_of}
use Rattle.sheets.specs.Sheet.{IsSheet}
use Rattle.sheets.specs.Due.{EndsWith, DueAt, line_place, LinesDue}
use Rattle.programs.specs.Symbols.{is_symbol, symbols_in}
use Rattle.programs.specs.Output.{refusal_text}
use Rattle.programs.specs.Building.{MOST_INPUT, first_line, after_first, printed_frame}
use Rattle.programs.specs.Reading.{frame_line}

-- ---- characters that must be n symbols

-- p is the index of the first character that is neither 0 nor 1
pub record FirstOtherAt (text : List ℕ) (p : ℕ) : Type 0 where
  pub inside : p < length text
  pub other : is_symbol (get_or text p 0) ≡ false
  pub before : (k : ℕ) → k < p → is_symbol (get_or text k 0) ≡ true

-- 1 at 0 for another length, 2 at the first other character
pub data SymbolsDue (n : ℕ) (text : List ℕ) : ℕ → ℕ → Type 0 where
  length_due : length text ≢ n → SymbolsDue n text LENGTH 0
  character_due : (p : ℕ) → length text ≡ n → FirstOtherAt text p → SymbolsDue n text NOT_A_BIT p

-- they are n symbols
pub record AreCharacters (n : ℕ) (text : List ℕ) : Type 0 where
  pub long : length text ≡ n
  pub each : (k : ℕ) → k < length text → is_symbol (get_or text k 0) ≡ true

-- ---- the bench program

-- there is a newline in the input
abbrev pub HasNewline : List ℕ → Type 0
HasNewline input = index_of LINE_END input < length input

-- at most 8192 bytes, and the first line is 250 characters 0 or 1
pub record RightPageLine (input : List ℕ) : Type 0 where
  pub few : length input ≤ MOST_INPUT
  pub newline : HasNewline input
  pub symbols : AreCharacters PAGE_BITS (first_line input)

-- over 8192 bytes; the page line; a sheet that does not begin right after it; its lines; a field of page 1
pub data InputDue (input : List ℕ) : ℕ → ℕ → Type 0 where
  long_due : MOST_INPUT < length input → InputDue input LENGTH 0
  newline_due : length input ≤ MOST_INPUT → (HasNewline input → ⊥) → InputDue input LENGTH 0
  page_line_due : (n p : ℕ) → length input ≤ MOST_INPUT → HasNewline input → SymbolsDue PAGE_BITS (first_line input) n p → InputDue input n p
  start_due : RightPageLine input → ((body : List ℕ) → EndsWith (after_first input) [] body → ⊥) → InputDue input TRAILER 0
  lines_due : (n p : ℕ) (body : List ℕ) → RightPageLine input → EndsWith (after_first input) [] body → LinesDue body n p → InputDue input n p
  page_due : (p : ℕ) (zs : List ℤ) → RightPageLine input → IsSheet zs (after_first input) → FieldOutAt Three (symbols_in (first_line input)) p
      → InputDue input FIELD_3 p

-- the refusal printed is 12 for the name of the line i, at its first byte; or another, for a line before it, which is judged first
pub data PrintedUpTo (input : List ℕ) (lines : List (List ℕ)) (i : ℕ) : Type 0 where
  printed_at_its_line : printed_frame input ≡ refusal_text NAME (line_place lines i) → PrintedUpTo input lines i
  printed_before : (j n : ℕ) → j < i → DueAt lines j n → n ≢ NAME → printed_frame input ≡ refusal_text n (line_place lines j) → PrintedUpTo input lines i

-- ---- the way back

-- the last byte is a newline
abbrev pub EndsLine : List ℕ → Type 0
EndsLine input = get_or input (length input - 1) 0 ≡ LINE_END

-- another length or no newline; another character; then what is due for the frame
pub data FrameInputDue (input : List ℕ) : ℕ → ℕ → Type 0 where
  end_due : (EndsLine input → ⊥) → FrameInputDue input LENGTH 0
  frame_line_due : (n p : ℕ) → EndsLine input → SymbolsDue FRAME (frame_line input) n p → FrameInputDue input n p
  frame_due : (n p : ℕ) → EndsLine input → AreCharacters FRAME (frame_line input) → FrameDue (symbols_in (frame_line input)) n p
      → FrameInputDue input n p
