-- Texts: their bytes, the same bytes, and a text cut after each byte of a kind.
-- Assumes nothing.
use Rattle.std.specs.Prelude.{Bool, true, false, cond, ◌&&◌, List, [], ◌∷◌, ◌++◌, ℕ, suc, eqb}
use Prim.Native.String.{String}
use Prim.Native.Char.{code}

-- the bytes of a text
abbrev pub bytes_in : String → List ℕ
bytes_in String.[] = []
bytes_in (String.◌∷◌ c s) = code c ∷ bytes_in s

-- the byte that ends a line
abbrev pub LINE_END : ℕ
LINE_END = 10

-- the byte `=`
abbrev pub EQUALS : ℕ
EQUALS = 61

-- how many bytes stand before the first byte b: all, where there is none
unfoldable pub index_of : ℕ → List ℕ → ℕ
index_of b [] = 0
index_of b (x ∷ l) = cond (eqb x b) 0 (suc (index_of b l))

-- both have the same bytes
unfoldable pub same_bytes : List ℕ → List ℕ → Bool
same_bytes [] [] = true
same_bytes [] (y ∷ m) = false
same_bytes (x ∷ l) [] = false
same_bytes (x ∷ l) (y ∷ m) = eqb x y && same_bytes l m

-- a byte before the first part; with no part there is nothing to put it before
abbrev pub before_first : ℕ → List (List ℕ) → List (List ℕ)
before_first x [] = []
before_first x (part ∷ parts) = (x ∷ part) ∷ parts

-- a byte before what stands after the last part, where there is no part
abbrev pub before_rest : ℕ → List (List ℕ) → List ℕ → List ℕ
before_rest x [] rest = x ∷ rest
before_rest x (part ∷ parts) rest = rest

-- the parts that end with the byte b, each without it
unfoldable pub parts_ended : ℕ → List ℕ → List (List ℕ)
parts_ended b [] = []
parts_ended b (x ∷ l) = cond (eqb x b) ([] ∷ parts_ended b l) (before_first x (parts_ended b l))

-- what stands after the last byte b
unfoldable pub after_last : ℕ → List ℕ → List ℕ
after_last b [] = []
after_last b (x ∷ l) = cond (eqb x b) (after_last b l) (before_rest x (parts_ended b l) (after_last b l))

-- parts one after another, each with the byte b behind it
unfoldable pub ended_by : ℕ → List (List ℕ) → List ℕ
ended_by b [] = []
ended_by b (part ∷ parts) = part ++ b ∷ ended_by b parts

-- how often a text is among others
unfoldable pub occurrences : List ℕ → List (List ℕ) → ℕ
occurrences x [] = 0
occurrences x (y ∷ l) = cond (same_bytes x y) (suc (occurrences x l)) (occurrences x l)
