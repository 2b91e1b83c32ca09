-- Which names lines give, and which numbers; one line more; the first name that is missing.
-- Assumes nothing.
use Rattle.std.specs.Prelude.{◌≡◌, Option, Some, None, is_some, is_none, unwrap_or, Bool, not, ◌||◌, ℕ, zero, suc, ◌+◌, ◌≤◌, ◌<◌, ℤ, pos, length, get_or, set}
use Rattle.std.proofs.Math.Path.{refl, sym, ap}
use Rattle.std.proofs.Common.{ap₂, ◌∙◌, arith}
use Rattle.std.proofs.Math.Bool.{true, false, cond, or_assoc, or-true, or-false}
use mathlib.Core.List.{List, [], ◌∷◌, ◌++◌, map}
use Rattle.std.proofs.Math.ListN.{length-map}
use Rattle.std.specs.List.{position_or_len}
use Rattle.sheets.specs.Text.{same_bytes}
use Rattle.sheets.specs.List.{sheet_names, position_in}
use Rattle.sheets.specs.Number.{value_in}
use Rattle.sheets.specs.Lines.{name_in, behind_equals, is_given, number_given, given_in, numbers_in, first_missing}
use Rattle.sheets.specs.Laws.Text.{same_self, same_not}
use Rattle.sheets.specs.Laws.List.{position_name, name_position}

-- ---- lines, and more lines behind them

pub given_append : (name : List ℕ) (lines more : List (List ℕ)) → is_given name (lines ++ more) ≡ (is_given name lines || is_given name more)
unfolding is_given
given_append name [] more = refl
given_append name (line ∷ lines) more =
    ap (λ (t : Bool). same_bytes name (name_in line) || t) (given_append name lines more)
    ∙ sym (or_assoc (same_bytes name (name_in line)) (is_given name lines) (is_given name more))

number_step : (s t : Bool) (x y z w : ℤ) → w ≡ cond t y z → cond s x w ≡ cond (s || t) (cond s x y) z
number_step true t x y z w e = refl
number_step false t x y z w e = e

pub number_append : (name : List ℕ) (lines more : List (List ℕ))
    → number_given name (lines ++ more) ≡ cond (is_given name lines) (number_given name lines) (number_given name more)
unfolding is_given number_given
number_append name [] more = refl
number_append name (line ∷ lines) more =
    number_step
    (same_bytes name (name_in line))
    (is_given name lines)
    (value_in (behind_equals line))
    (number_given name lines)
    (number_given name more)
    (number_given name (lines ++ more))
    (number_append name lines more)

none_step : (s t : Bool) (x y : ℤ) → (t ≡ false → y ≡ pos 0) → (s || t) ≡ false → cond s x y ≡ pos 0
none_step true t x y h e = cc
none_step false t x y h e = h e

pub number_none : (name : List ℕ) (lines : List (List ℕ)) → is_given name lines ≡ false → number_given name lines ≡ pos 0
unfolding is_given number_given
number_none name [] e = refl
number_none name (line ∷ lines) e =
    none_step
    (same_bytes name (name_in line))
    (is_given name lines)
    (value_in (behind_equals line))
    (number_given name lines)
    (number_none name lines)
    e

-- ---- one line more

module _ (name : List ℕ) (lines : List (List ℕ)) (line : List ℕ) where
  pub given_more : is_given name (lines ++ line ∷ []) ≡ (is_given name lines || same_bytes name (name_in line))
  unfolding is_given
  given_more =
      given_append name lines (line ∷ []) ∙ ap (λ (t : Bool). is_given name lines || t) (or-false (same_bytes name (name_in line)))

  -- a line of this name
  module _ (h : name ≡ name_in line) where
    same_name : same_bytes name (name_in line) ≡ true
    same_name = ap (same_bytes name) (sym h) ∙ same_self name

    pub given_by : is_given name (lines ++ line ∷ []) ≡ true
    given_by = given_more ∙ ap (λ (t : Bool). is_given name lines || t) same_name ∙ or-true (is_given name lines)

    pub number_by_lem : is_given name lines ≡ false → number_given name (lines ++ line ∷ []) ≡ value_in (behind_equals line)
    unfolding number_given
    number_by_lem new = number_append name lines (line ∷ []) ∙ rw (new, same_name)

  -- a line of another name
  module _ (h : name ≡ name_in line → ⊥) where
    other_name : same_bytes name (name_in line) ≡ false
    other_name = same_not name (name_in line) h

    pub given_beside : is_given name (lines ++ line ∷ []) ≡ is_given name lines
    given_beside = given_more ∙ ap (λ (t : Bool). is_given name lines || t) other_name ∙ or-false (is_given name lines)

    pub number_beside : number_given name (lines ++ line ∷ []) ≡ number_given name lines
    unfolding number_given
    number_beside = number_append name lines (line ∷ []) ∙ rw other_name (go (is_given name lines) refl)
      where
        go : (t : Bool) → is_given name lines ≡ t → cond t (number_given name lines) (pos 0) ≡ number_given name lines
        go true e = refl
        go false e = sym (number_none name lines e)

-- ---- for each name of the list

module _ {A B : Type 0} where
  -- two maps that are equal at each index
  map_same : (f g : A → B) (l : List A) (d : A) → ((i : ℕ) → i < length l → f (get_or l i d) ≡ g (get_or l i d)) → map f l ≡ map g l
  map_same f g [] d h = refl
  map_same f g (x ∷ l) d h = ap₂ (◌∷◌) (h 0 (omega arith)) (map_same f g l d (λ i below. h (suc i) (omega arith)))

  -- and two that differ at the index k alone
  map_set : (f g : A → B) (l : List A) (k : ℕ) (d : A) (b : B) → b ≡ g (get_or l k d)
      → ((i : ℕ) → i < length l → (i ≡ k → ⊥) → f (get_or l i d) ≡ g (get_or l i d)) → set (map f l) k b ≡ map g l
  map_set f g [] k d b e h = refl
  map_set f g (x ∷ l) zero d b e h =
      ap₂ (◌∷◌) e (map_same f g l d (λ i below. h (suc i) (omega arith) (λ z. omega arith)))
  map_set f g (x ∷ l) (suc k) d b e h =
      ap₂ (◌∷◌)
      (h 0 (omega arith) (λ z. omega arith))
      (map_set f g l k d b e (λ i below other. h (suc i) (omega arith) (λ z. other (omega arith))))

  -- an element of a map
  map_at : (f : A → B) (l : List A) (k : ℕ) (d : A) (b : B) → k < length l → get_or (map f l) k b ≡ f (get_or l k d)
  map_at f [] k d b h = absurd (omega arith)
  map_at f (x ∷ l) zero d b h = refl
  map_at f (x ∷ l) (suc k) d b h = map_at f l k d b (omega arith)

module _ (lines : List (List ℕ)) where
  pub given_many : length (given_in lines) ≡ length sheet_names
  unfolding given_in
  given_many = length-map sheet_names (λ (name : List ℕ). is_given name lines)

  pub numbers_many : length (numbers_in lines) ≡ length sheet_names
  unfolding numbers_in
  numbers_many = length-map sheet_names (λ (name : List ℕ). number_given name lines)

  pub given_at : (k : ℕ) → k < length sheet_names → get_or (given_in lines) k false ≡ is_given (get_or sheet_names k []) lines
  unfolding given_in
  given_at k h = map_at (λ (name : List ℕ). is_given name lines) sheet_names k [] false h

  pub number_at : (k : ℕ) → k < length sheet_names → get_or (numbers_in lines) k (pos 0) ≡ number_given (get_or sheet_names k []) lines
  unfolding numbers_in
  number_at k h = map_at (λ (name : List ℕ). number_given name lines) sheet_names k [] (pos 0) h

  -- a line more, of a name of the list
  module _ (line : List ℕ) (listed : position_in (name_in line) sheet_names < length sheet_names) where
    abbrev position : ℕ
    position = position_in (name_in line) sheet_names

    its_name : get_or sheet_names position [] ≡ name_in line
    its_name = position_name (name_in line) sheet_names listed

    other_names : (i : ℕ) → i < length sheet_names → (i ≡ position → ⊥) → get_or sheet_names i [] ≡ name_in line → ⊥
    other_names i below other same = other (sym (name_position i below) ∙ ap (λ (name : List ℕ). position_in name sheet_names) same)

-- ---- the first that is missing

pub missing_le : (given : List Bool) → first_missing given ≤ length given
unfolding first_missing
missing_le [] = omega arith
missing_le (true ∷ given) = omega (arith, missing_le given)
missing_le (false ∷ given) = omega arith

-- ---- for each name of the list its number, where it is given

abbrev pub number_found : List ℕ → List (List ℕ) → Option ℤ
number_found name lines = cond (is_given name lines) (Some (number_given name lines)) None

unfoldable pub found_in : List (List ℕ) → List (Option ℤ)
found_in lines = map (λ (name : List ℕ). number_found name lines) sheet_names

some_test : (t : Bool) (z : ℤ) → is_some (cond t (Some z) None) ≡ t
some_test true z = refl
some_test false z = refl

missing_step : (t : Bool) (z : ℤ) (n m : ℕ) → n ≡ m → cond (not (is_none (cond t (Some z) None))) (1 + n) 0 ≡ cond t (suc m) 0
missing_step true z n m e = omega (arith, e)
missing_step false z n m e = refl

module _ (lines : List (List ℕ)) where
  pub found_many : length (found_in lines) ≡ length sheet_names
  unfolding found_in
  found_many = length-map sheet_names (λ (name : List ℕ). number_found name lines)

  -- whether a name has one, the first that has none, and the numbers, are as for the names and the numbers apart
  pub found_at : (k : ℕ) → k < length sheet_names → is_some (get_or (found_in lines) k None) ≡ is_given (get_or sheet_names k []) lines
  unfolding found_in
  found_at k h =
      let name = get_or sheet_names k [] in
      ap is_some (map_at (λ (name : List ℕ). number_found name lines) sheet_names k [] None h)
      ∙ some_test (is_given name lines) (number_given name lines)

  missing_by_names : (names : List (List ℕ))
      → position_or_len is_none (map (λ (name : List ℕ). number_found name lines) names)
      ≡ first_missing (map (λ (name : List ℕ). is_given name lines) names)
  unfolding first_missing
  missing_by_names [] = refl
  missing_by_names (name ∷ names) =
      missing_step (is_given name lines) (number_given name lines)
      (position_or_len is_none (map (λ (name : List ℕ). number_found name lines) names))
      (first_missing (map (λ (name : List ℕ). is_given name lines) names))
      (missing_by_names names)

  pub missing_found : position_or_len is_none (found_in lines) ≡ first_missing (given_in lines)
  unfolding found_in given_in
  missing_found = missing_by_names sheet_names

  number_or : (name : List ℕ) (t : Bool) → is_given name lines ≡ t
      → unwrap_or (cond t (Some (number_given name lines)) None) (pos 0) ≡ number_given name lines
  number_or name true e = refl
  number_or name false e = sym (number_none name lines e)

  numbers_by_names : (names : List (List ℕ))
      → map (λ (x : Option ℤ). unwrap_or x (pos 0)) (map (λ (name : List ℕ). number_found name lines) names)
      ≡ map (λ (name : List ℕ). number_given name lines) names
  numbers_by_names [] = refl
  numbers_by_names (name ∷ names) = ap₂ (◌∷◌) (number_or name (is_given name lines) refl) (numbers_by_names names)

  pub numbers_or : map (λ (x : Option ℤ). unwrap_or x (pos 0)) (found_in lines) ≡ numbers_in lines
  unfolding found_in numbers_in
  numbers_or = numbers_by_names sheet_names

  -- a line more, of a name of the list that is not given yet
  pub found_set : (line : List ℕ) → position_in (name_in line) sheet_names < length sheet_names → is_given (name_in line) lines ≡ false
      → set (found_in lines) (position_in (name_in line) sheet_names) (Some (value_in (behind_equals line))) ≡ found_in (lines ++ line ∷ [])
  unfolding found_in
  found_set line listed new =
      let place = position_in (name_in line) sheet_names in
      let its = its_name lines line listed in
      map_set
      (λ (name : List ℕ). number_found name lines)
      (λ (name : List ℕ). number_found name (lines ++ line ∷ []))
      sheet_names
      place
      []
      (Some (value_in (behind_equals line)))
      (sym (ap₂ (λ (t : Bool) (z : ℤ). cond t (Some z) None)
      (given_by (get_or sheet_names place []) lines line its)
      (number_by_lem (get_or sheet_names place []) lines line its (ap (λ (name : List ℕ). is_given name lines) its ∙ new))))
      (λ i below other.
      sym (ap₂ (λ (t : Bool) (z : ℤ). cond t (Some z) None)
      (given_beside (get_or sheet_names i []) lines line (other_names lines line listed i below other))
      (number_beside (get_or sheet_names i []) lines line (other_names lines line listed i below other))))
