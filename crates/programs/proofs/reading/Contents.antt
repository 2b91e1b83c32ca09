-- What is printed for contents: the parts of the text one after another.
-- Assumes nothing.
use mathlib.Core.List.{[], ◌∷◌, ◌++◌}
use Prim.Native.Nat.{ℕ}
use Rattle.frames.specs.Frame.{Contents}
use Rattle.sheets.specs.Text.{LINE_END, bytes_in}
use Rattle.sheets.specs.Number.{decimal}
use Rattle.sheets.specs.Write.{sheet_text}
use Rattle.sheets.specs.Contents.{numbers_of}
use Rattle.programs.specs.Output.{symbol_line}
use Rattle.programs.specs.Reading.{input_text, contents_text}
use Rattle.programs.specs.Laws.Output.{Adds, adds_on}
use Rattle.programs.specs.declared.output.Output.{Output}

-- the contents, each part behind the one before
pub contents_added : (c : Contents) (corrected : ℕ) (o₀ o₁ o₂ o₃ o₄ o₅ : Output) → Adds o₀ (bytes_in "corrected ") o₁
    → Adds o₁ (decimal corrected) o₂ → Adds o₂ (LINE_END ∷ []) o₃ → Adds o₃ (symbol_line c.page) o₄ → Adds o₄ (sheet_text (numbers_of c)) o₅
    → Adds o₀ (contents_text c corrected) o₅
unfolding contents_text input_text
contents_added c corrected o₀ o₁ o₂ o₃ o₄ o₅ a₁ a₂ a₃ a₄ a₅ =
    let sheet = sheet_text (numbers_of c) in
    let input = symbol_line c.page ++ sheet in
    adds_on o₀ (bytes_in "corrected ") (decimal corrected ++ LINE_END ∷ input) o₁ o₅ a₁
    (adds_on o₁ (decimal corrected) (LINE_END ∷ input) o₂ o₅ a₂
    (adds_on o₂ (LINE_END ∷ []) input o₃ o₅ a₃
    (adds_on o₃ (symbol_line c.page) sheet o₄ o₅ a₄ a₅)))
