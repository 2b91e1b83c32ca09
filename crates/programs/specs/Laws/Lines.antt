-- The first line of a text, and lines of symbols.
-- Assumes nothing.
use Rattle.std.specs.Prelude.{◌≡◌, refl, List, [], ◌∷◌, ◌++◌, ℕ, suc, ◌+◌, ◌-◌, ◌<◌, length, get_or, drop}
use Rattle.std.proofs.Common.{sym, ◌∙◌, append_assoc, add-zero, arith, ne_eqb}
use Rattle.std.proofs.Math.Path.{ap}
use Rattle.std.proofs.Math.ListN.{length-append}
use Rattle.std.proofs.Math.Seq.{take_at, drop_at}
use Rattle.std.proofs.lemmas.List.{get_or_at}
use Rattle.sheets.specs.Text.{LINE_END, index_of}
use Rattle.sheets.specs.Laws.Text.{index_first, index_past, index_cut}
use Rattle.programs.specs.Symbols.{ZERO, symbols_in, characters_of}
use Rattle.programs.specs.Output.{symbol_line}
use Rattle.programs.specs.Building.{first_line, after_first}
use Rattle.programs.specs.Reading.{frame_line}
use Rattle.programs.specs.Laws.Symbols.{characters_long, symbols_again}

-- ---- the first line

-- a line and its newline, and any bytes after it
module _ (line rest : List ℕ) (none : index_of LINE_END line ≡ length line) where
  line_end : index_of LINE_END (line ++ LINE_END ∷ rest) ≡ length line
  line_end =
      index_past LINE_END line (LINE_END ∷ rest) none
      ∙ ap (λ (n : ℕ). length line + n) (index_first LINE_END rest)
      ∙ add-zero (length line)

  pub first_is : first_line (line ++ LINE_END ∷ rest) ≡ line
  unfolding first_line
  first_is = take_at line (LINE_END ∷ rest) (index_of LINE_END (line ++ LINE_END ∷ rest)) (sym line_end)

  pub after_is : after_first (line ++ LINE_END ∷ rest) ≡ rest
  unfolding after_first
  after_is =
      ap (drop (index_of LINE_END (line ++ LINE_END ∷ rest) + 1)) (sym (append_assoc line (LINE_END ∷ []) rest))
      ∙ drop_at (line ++ LINE_END ∷ []) rest (index_of LINE_END (line ++ LINE_END ∷ rest) + 1)
      (omega (arith, length-append line (LINE_END ∷ []), line_end))

  pub has_newline : index_of LINE_END (line ++ LINE_END ∷ rest) < length (line ++ LINE_END ∷ rest)
  has_newline = omega (arith, length-append line (LINE_END ∷ rest), line_end)

-- a text with a newline is such
pub first_cut : (text : List ℕ) → index_of LINE_END text < length text → text ≡ first_line text ++ LINE_END ∷ after_first text
unfolding first_line after_first
first_cut text newline = index_cut LINE_END text newline

-- ---- lines of symbols

pub no_newline_in : (l : List ℕ) → index_of LINE_END (characters_of l) ≡ length (characters_of l)
unfolding index_of characters_of
no_newline_in [] = refl
no_newline_in (b ∷ l) = rw (ne_eqb (ZERO + b) LINE_END (λ e. omega arith)) (ap suc (no_newline_in l))

pub symbol_line_long : (l : List ℕ) → length (symbol_line l) ≡ length l + 1
unfolding symbol_line
symbol_line_long l = omega (arith, length-append (characters_of l) (LINE_END ∷ []), characters_long l)

-- the line and what stands after it
pub symbol_line_on : (l rest : List ℕ) → symbol_line l ++ rest ≡ characters_of l ++ LINE_END ∷ rest
unfolding symbol_line
symbol_line_on l rest = append_assoc (characters_of l) (LINE_END ∷ []) rest

-- a line and its last byte
pub line_before : (line : List ℕ) (x : ℕ) → frame_line (line ++ x ∷ []) ≡ line
unfolding frame_line
line_before line x = take_at line (x ∷ []) (length (line ++ x ∷ []) - 1) (omega (arith, length-append line (x ∷ [])))

pub line_ends : (line : List ℕ) (x : ℕ) → get_or (line ++ x ∷ []) (length (line ++ x ∷ []) - 1) 0 ≡ x
line_ends line x = get_or_at line x [] 0 (length (line ++ x ∷ []) - 1) (omega (arith, length-append line (x ∷ [])))

-- a symbol line without its last byte
pub frame_line_is : (l : List ℕ) → frame_line (symbol_line l) ≡ characters_of l
unfolding symbol_line
frame_line_is l = line_before (characters_of l) LINE_END

pub symbol_line_ends : (l : List ℕ) → get_or (symbol_line l) (length (symbol_line l) - 1) 0 ≡ LINE_END
unfolding symbol_line
symbol_line_ends l = line_ends (characters_of l) LINE_END

-- different symbols have different lines
pub lines_differ : (l m : List ℕ) → symbol_line l ≡ symbol_line m → l ≡ m
lines_differ l m e =
    sym (symbols_again l)
    ∙ ap symbols_in (sym (frame_line_is l) ∙ ap frame_line e ∙ frame_line_is m)
    ∙ symbols_again m
