-- How often a text is among others, and the lines of a list of names.
-- Assumes nothing.
use Rattle.std.specs.Prelude.{◌≡◌, refl, Bool, true, false, cond, List, [], ◌∷◌, ◌++◌, ℕ, zero, suc, ◌+◌, ◌≤◌, ◌<◌, ℤ, pos, length, get_or}
use Rattle.std.proofs.Common.{sym, ap, ◌∙◌, arith}
use Rattle.sheets.specs.Text.{same_bytes, occurrences}
use Rattle.sheets.specs.Sheet.{line_text, line_texts}
use Rattle.sheets.specs.Laws.Text.{same_is, same_self}

-- one where the test holds
abbrev pub one_if : Bool → ℕ
one_if true = 1
one_if false = 0

by_test : (t : Bool) (n : ℕ) → cond t (suc n) n ≡ one_if t + n
by_test true n = omega arith
by_test false n = omega arith

pub occurs_first : (x y : List ℕ) (l : List (List ℕ)) → occurrences x (y ∷ l) ≡ one_if (same_bytes x y) + occurrences x l
unfolding occurrences
occurs_first x y l = by_test (same_bytes x y) (occurrences x l)

pub occurs_append : (x : List ℕ) (l m : List (List ℕ)) → occurrences x (l ++ m) ≡ occurrences x l + occurrences x m
unfolding occurrences
occurs_append x [] m = omega arith
occurs_append x (y ∷ l) m = omega (arith, by_test (same_bytes x y) (occurrences x (l ++ m)), by_test (same_bytes x y) (occurrences x l), occurs_append x l m)

-- a text that is among others is at some index of them
pub record Among (x : List ℕ) (l : List (List ℕ)) : Type 0 where
  pub index : ℕ
  pub inside : index < length l
  pub is : get_or l index [] ≡ x

pub occurs_among : (x : List ℕ) (l : List (List ℕ)) → 0 < occurrences x l → Among x l
unfolding occurrences
occurs_among x [] h = absurd (omega arith)
occurs_among x (y ∷ l) h = go (same_bytes x y) refl (occurs_among x l)
  where
    go : (t : Bool) → same_bytes x y ≡ t → (0 < occurrences x l → Among x l) → Among x (y ∷ l)
    go true e later = record { index = 0; inside = omega arith; is = sym (same_is x y e) }
    go false e later =
        let some : 0 < occurrences x l = omega (arith, h, occurs_first x y l, ap one_if e) in
        let a = later some in
        record { index = suc a.index; inside = omega (arith, a.inside); is = a.is }

pub among_occurs : (l : List (List ℕ)) (i : ℕ) → i < length l → 0 < occurrences (get_or l i []) l
among_occurs [] i h = absurd (omega arith)
among_occurs (y ∷ l) zero h = omega (arith, occurs_first y y l, ap one_if (same_self y))
among_occurs (y ∷ l) (suc i) h = omega (arith, occurs_first (get_or l i []) y l, among_occurs l i (omega arith))

-- where no text stands twice, each occurs at most once
pub at_most_once : (x : List ℕ) (l : List (List ℕ))
    → ((i j : ℕ) → i < length l → j < length l → get_or l i [] ≡ get_or l j [] → i ≡ j) → occurrences x l ≤ 1
unfolding occurrences
at_most_once x [] h = omega arith
at_most_once x (y ∷ l) h =
    go (same_bytes x y) refl
    (at_most_once x l (λ i j a b e. let k = h (suc i) (suc j) (omega arith) (omega arith) e in omega arith))
  where
    none : x ≡ y → occurrences x l ≡ 0
    none e = split (occurrences x l) refl
      where
        split : (n : ℕ) → occurrences x l ≡ n → occurrences x l ≡ 0
        split zero f = f
        split (suc n) f =
            let a = occurs_among x l (omega arith) in
            let same = h 0 (suc a.index) (omega arith) (omega (arith, a.inside)) (sym e ∙ sym a.is) in
            absurd (omega arith)

    go : (t : Bool) → same_bytes x y ≡ t → occurrences x l ≤ 1 → occurrences x (y ∷ l) ≤ 1
    go true e later = omega (arith, occurs_first x y l, ap one_if e, none (same_is x y e))
    go false e later = omega (arith, occurs_first x y l, ap one_if e)

-- a text that stands twice occurs twice
pub twice : (l : List (List ℕ)) (i j : ℕ) → i < j → j < length l → get_or l i [] ≡ get_or l j [] → 2 ≤ occurrences (get_or l j []) l
twice [] i j h b e = absurd (omega arith)
twice (y ∷ l) i zero h b e = absurd (omega arith)
twice (y ∷ l) zero (suc j) h b e =
    omega (arith, occurs_first (get_or l j []) y l, ap one_if (ap (λ (x : List ℕ). same_bytes x y) (sym e) ∙ same_self y), among_occurs l j (omega arith))
twice (y ∷ l) (suc i) (suc j) h b e = omega (arith, occurs_first (get_or l j []) y l, twice l i j (omega arith) (omega arith) e)

-- ---- the lines of names and numbers

pub line_texts_many : (names : List (List ℕ)) (zs : List ℤ) → length names ≡ length zs → length (line_texts names zs) ≡ length names
unfolding line_texts
line_texts_many [] zs e = refl
line_texts_many (name ∷ names) [] e = absurd (omega arith)
line_texts_many (name ∷ names) (z ∷ zs) e = ap suc (line_texts_many names zs (omega arith))

pub line_texts_at : (names : List (List ℕ)) (zs : List ℤ) (k : ℕ) → length names ≡ length zs → k < length names
    → get_or (line_texts names zs) k [] ≡ line_text (get_or names k []) (get_or zs k (pos 0))
unfolding line_texts
line_texts_at [] zs k e h = absurd (omega arith)
line_texts_at (name ∷ names) [] k e h = absurd (omega arith)
line_texts_at (name ∷ names) (z ∷ zs) zero e h = refl
line_texts_at (name ∷ names) (z ∷ zs) (suc k) e h = line_texts_at names zs k (omega arith) (omega arith)
