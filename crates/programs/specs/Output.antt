-- What a program prints (document 01, "The bench program"): symbols as characters and a newline, or `refused N at P` and a newline, N and P
-- in decimal.
-- Assumes nothing.
use Rattle.std.specs.Prelude.{List, [], ◌∷◌, ◌++◌, ℕ, length, drop, replicate, Err, Ok}
use Rattle.sheets.specs.Text.{LINE_END, bytes_in}
use Rattle.sheets.specs.Number.{decimal}
use Rattle.programs.specs.Symbols.{characters_of}
use Rattle.programs.specs.declared.output.Output.{Output}
use Rattle.words.specs.Refusal.{Answer}

-- room for what is printed: no program prints more than 1800 characters and a newline
abbrev pub OUTPUT_BYTES : ℕ
OUTPUT_BYTES = 1801

-- symbols as characters, and a newline
unfoldable pub symbol_line : List ℕ → List ℕ
symbol_line symbols = characters_of symbols ++ LINE_END ∷ []

-- `refused N at P` and a newline
unfoldable pub refusal_text : ℕ → ℕ → List ℕ
refusal_text number place = bytes_in "refused " ++ (decimal number ++ (bytes_in " at " ++ (decimal place ++ LINE_END ∷ [])))

-- by an answer: the text where nothing is refused, and else the refusal alone
abbrev pub text_by : Answer → List ℕ → List ℕ
text_by (Ok _) text = text
text_by (Err r) text = refusal_text r.number r.place

-- the text, zeros behind it, and its length
unfoldable pub output_of : List ℕ → Output
output_of text = record { bytes = text ++ drop (length text) (replicate OUTPUT_BYTES 0); size = length text }
