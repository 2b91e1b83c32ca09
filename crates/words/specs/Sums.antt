-- Lists of symbols side by side: their sum modulo 2, place by place, and how many places differ.
-- Assumes nothing.
use Rattle.std.specs.Prelude.{◌≡◌, cond, List, [], ◌∷◌, ℕ, suc, ◌+◌, ◌%◌, ◌≤◌, ◌<◌, eqb, length, get_or}

-- the sum modulo 2 of two symbols
abbrev pub add2 : ℕ → ℕ → ℕ
add2 x y = (x + y) % 2

-- the sum modulo 2, place by place, of two lists of one length
abbrev pub sums : List ℕ → List ℕ → List ℕ
sums [] ys = []
sums (x ∷ xs) [] = []
sums (x ∷ xs) (y ∷ ys) = add2 x y ∷ sums xs ys

-- 0 where the two are equal, 1 where they are not
abbrev pub differs : ℕ → ℕ → ℕ
differs x y = cond (eqb x y) 0 1

-- how many places differ; a place that only one list has counts too
abbrev pub differing : List ℕ → List ℕ → ℕ
differing [] ys = length ys
differing (x ∷ xs) [] = suc (length xs)
differing (x ∷ xs) (y ∷ ys) = differs x y + differing xs ys

-- how many ones a list of bits has
abbrev pub weight : List ℕ → ℕ
weight [] = 0
weight (x ∷ xs) = x + weight xs

-- the places in which two lists differ are all among the 24 from p on
pub record Within24 (a b : List ℕ) (p : ℕ) : Type 0 where
  pub inside : (k : ℕ) → (get_or a k 0 ≡ get_or b k 0 → ⊥) → (p ≤ k) × (k < p + 24)
