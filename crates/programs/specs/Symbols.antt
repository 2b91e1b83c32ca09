-- Symbols as characters (document 01, "The bench program"): each is the character 0 or 1.
-- Assumes nothing.
use Rattle.std.specs.Prelude.{Bool, cond, ◌&&◌, List, [], ◌∷◌, ℕ, suc, ◌+◌, ◌-◌, eqb, leb, length}
use Rattle.words.specs.Refusal.{LENGTH, NOT_A_BIT, done_if, in_turn, Answer}

-- the character 0; the character 1 is the next
abbrev pub ZERO : ℕ
ZERO = 48

-- the character is 0 or 1
abbrev pub is_symbol : ℕ → Bool
is_symbol c = leb ZERO c && leb c (ZERO + 1)

-- the index of the first other character, or the length
unfoldable pub first_other : List ℕ → ℕ
first_other [] = 0
first_other (c ∷ l) = cond (is_symbol c) (suc (first_other l)) 0

-- the symbols that characters stand for
unfoldable pub symbols_in : List ℕ → List ℕ
symbols_in [] = []
symbols_in (c ∷ l) = (c - ZERO) ∷ symbols_in l

-- symbols as characters
unfoldable pub characters_of : List ℕ → List ℕ
characters_of [] = []
characters_of (b ∷ l) = (ZERO + b) ∷ characters_of l

-- judging characters that must be n symbols: 1 at 0 for another length, then 2 at the first other character
abbrev pub symbols_answer : ℕ → List ℕ → Answer
symbols_answer n text = in_turn (done_if (eqb (length text) n) LENGTH 0) (done_if (eqb (first_other text) (length text)) NOT_A_BIT (first_other text))
