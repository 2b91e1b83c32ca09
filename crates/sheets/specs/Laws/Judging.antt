-- One line, judged: it is fine, or something is due.
-- Assumes nothing.
use Rattle.std.specs.Prelude.{◌≡◌, Bool, true, false, not, ◌≢◌, ◌⊎◌, take}
use Rattle.std.proofs.Math.Path.{refl, ap}
use Rattle.std.proofs.Common.{sym, ◌∙◌, inl, inr, ⊎_elim, eq-or-lt_of_le, le_of_suc-le-suc, arith, lt-ltb, le-ltb}
use Rattle.std.proofs.Math.Bool.{and-eq-true_iff}
use mathlib.Core.List.{List, [], ◌∷◌, ◌++◌}
use Prim.Native.Nat.{ℕ, zero, suc, ◌+◌, ◌≤◌, ◌<◌}
use Rattle.std.proofs.Math.ListN.{length, get_or}
use Rattle.words.specs.Refusal.{LINE, NAME, NAME_AGAIN, NUMBER, refused_at, done_if, in_turn, Answer, Done}
use Rattle.words.specs.Laws.Turns.{not_done}
use Rattle.tables.specs.Laws.Cases.{before_or_not}
use Rattle.fields.specs.Table.{no_field}
use Rattle.fields.specs.Counts.{in_range}
use Rattle.sheets.specs.Text.{EQUALS, index_of}
use Rattle.sheets.specs.List.{sheet_names, sheet_fields, position_in}
use Rattle.sheets.specs.Number.{is_number, is_number_of, value_in}
use Rattle.sheets.specs.Lines.{has_equals, name_in, behind_equals, is_listed, field_named, is_given, line_answer, lines_answer}
use Rattle.sheets.specs.Due.{Listed, Unlisted, GivenBy, HasEquals, NumberOf, LineDue, equals_due, name_due, again_due, number_due, DueAt}
use Rattle.sheets.specs.Laws.List.{position_name, name_position}
use Rattle.sheets.specs.Laws.Numerals.{numeral_is, numeral_value, numeral_only}
use Rattle.sheets.specs.Laws.LineTexts.{given_is, given_when, not_given}

-- ---- the tests of a line

pub listed_position : (name : List ℕ) (k : ℕ) → Listed name k → position_in name sheet_names ≡ k
listed_position name k l = ap (λ (x : List ℕ). position_in x sheet_names) (sym l.is) ∙ name_position k l.inside

pub listed_at : (name : List ℕ) → position_in name sheet_names < length sheet_names → Listed name (position_in name sheet_names)
listed_at name h = record { inside = h; is = position_name name sheet_names h }

number_when : (k : ℕ) (text : List ℕ) → NumberOf k text → is_number_of (get_or sheet_fields k no_field) text ≡ true
number_when k text n =
    let value : value_in text ≡ n.count = ap value_in n.written ∙ numeral_value n.count in
    (and-eq-true_iff (is_number text) (in_range (get_or sheet_fields k no_field) (value_in text))).1
    (ap is_number n.written ∙ numeral_is n.count, ap (in_range (get_or sheet_fields k no_field)) value ∙ n.within_range)

number_of : (k : ℕ) (text : List ℕ) → is_number_of (get_or sheet_fields k no_field) text ≡ true → NumberOf k text
number_of k text e =
    let both = (and-eq-true_iff (is_number text) (in_range (get_or sheet_fields k no_field) (value_in text))).0 e in
    record { count = value_in text; written = sym (numeral_only text both.0); within_range = both.1 }

-- ---- one line

-- nothing is due for a line after the lines before it: what it says
pub record Fine (before : List (List ℕ)) (line : List ℕ) : Type 0 where
  pub has : HasEquals line
  pub index : ℕ
  pub listed : Listed (name_in line) index
  pub new : GivenBy (name_in line) before → ⊥
  pub number : NumberOf index (behind_equals line)

module _ (before : List (List ℕ)) (place : ℕ) (line : List ℕ) where
  -- the answer by its four tests
  by_tests : (a b c d : Bool) → has_equals line ≡ a → is_listed (name_in line) ≡ b → is_given (name_in line) before ≡ c
      → is_number_of (field_named (name_in line)) (behind_equals line) ≡ d
      → line_answer before place line
      ≡ in_turn (done_if a LINE place) (in_turn (done_if b NAME place) (in_turn (done_if (not c) NAME_AGAIN place) (done_if d NUMBER place)))
  unfolding line_answer
  by_tests a b c d e f g h = rw (e, f, g, h) refl

  listed_test : (k : ℕ) → Listed (name_in line) k → is_listed (name_in line) ≡ true
  listed_test k l = let p = listed_position (name_in line) k l in lt-ltb (position_in (name_in line) sheet_names) (length sheet_names) (omega (arith, p, l.inside))

  field_is : (k : ℕ) → Listed (name_in line) k → is_number_of (field_named (name_in line)) (behind_equals line) ≡ is_number_of (get_or sheet_fields k no_field) (behind_equals line)
  field_is k l = ap (λ (i : ℕ). is_number_of (get_or sheet_fields i no_field) (behind_equals line)) (listed_position (name_in line) k l)

  pub fine_done : Fine before line → line_answer before place line ≡ Done
  fine_done f =
      by_tests true true false true (lt-ltb (index_of EQUALS line) (length line) f.has) (listed_test f.index f.listed)
      (not_given (name_in line) before f.new) (field_is f.index f.listed ∙ number_when f.index (behind_equals line) f.number)

  pub due_refused : (n : ℕ) → LineDue before line n → (line_answer before place line ≡ refused_at n place) × (n ≢ 0)
  due_refused n (equals_due h) = (
    by_tests false (is_listed (name_in line)) (is_given (name_in line) before) (is_number_of (field_named (name_in line)) (behind_equals line))
        (le-ltb (index_of EQUALS line) (length line) (⊎_elim (λ b. absurd (h b)) (λ b. b) (before_or_not (index_of EQUALS line) (length line)))) refl refl refl,
    λ e. omega arith,
  )
  due_refused n (name_due h u) = (
    by_tests true false (is_given (name_in line) before) (is_number_of (field_named (name_in line)) (behind_equals line))
        (lt-ltb (index_of EQUALS line) (length line) h)
        (le-ltb (position_in (name_in line) sheet_names) (length sheet_names)
        (⊎_elim (λ b. absurd (u (position_in (name_in line) sheet_names) (listed_at (name_in line) b))) (λ b. b)
        (before_or_not (position_in (name_in line) sheet_names) (length sheet_names)))) refl refl,
    λ e. omega arith,
  )
  due_refused n (again_due k h l g) = (
    by_tests true true true (is_number_of (field_named (name_in line)) (behind_equals line))
        (lt-ltb (index_of EQUALS line) (length line) h) (listed_test k l) (given_when (name_in line) before g) refl,
    λ e. omega arith,
  )
  due_refused n (number_due k h l g none) = (
    by_tests true true false false
        (lt-ltb (index_of EQUALS line) (length line) h) (listed_test k l) (not_given (name_in line) before g)
        (field_is k l ∙ no_number (is_number_of (get_or sheet_fields k no_field) (behind_equals line)) refl),
    λ e. omega arith,
  )
    where
      no_number : (t : Bool) → is_number_of (get_or sheet_fields k no_field) (behind_equals line) ≡ t → is_number_of (get_or sheet_fields k no_field) (behind_equals line) ≡ false
      no_number true e = absurd (none (number_of k (behind_equals line) e))
      no_number false e = e

-- a line is fine, or something is due for it
pub data LineView (before : List (List ℕ)) (line : List ℕ) : Type 0 where
  is_fine : Fine before line → LineView before line
  is_due : (n : ℕ) → LineDue before line n → LineView before line

pub line_view : (before : List (List ℕ)) (line : List ℕ) → LineView before line
line_view before line = by_equals (before_or_not (index_of EQUALS line) (length line))
  where
    by_number : (k : ℕ) → HasEquals line → Listed (name_in line) k → (GivenBy (name_in line) before → ⊥) → (t : Bool)
        → is_number_of (get_or sheet_fields k no_field) (behind_equals line) ≡ t → LineView before line
    by_number k h l new true e = is_fine (record { has = h; index = k; listed = l; new = new; number = number_of k (behind_equals line) e })
    by_number k h l new false e =
        is_due NUMBER (number_due k h l new (λ n. let z : ◌≡◌ {A = Bool} true false = sym (number_when k (behind_equals line) n) ∙ e in let c : ◌≡◌ {A = ℕ} 0 1 = cc in omega arith))

    by_given : (k : ℕ) → HasEquals line → Listed (name_in line) k → (t : Bool) → is_given (name_in line) before ≡ t → LineView before line
    by_given k h l true e = is_due NAME_AGAIN (again_due k h l (given_is (name_in line) before e))
    by_given k h l false e =
        by_number k h l
        (λ g. let z : ◌≡◌ {A = Bool} true false = sym (given_when (name_in line) before g) ∙ e in let c : ◌≡◌ {A = ℕ} 0 1 = cc in omega arith)
        (is_number_of (get_or sheet_fields k no_field) (behind_equals line)) refl

    by_name : HasEquals line → (position_in (name_in line) sheet_names < length sheet_names) ⊎ (length sheet_names ≤ position_in (name_in line) sheet_names)
        → LineView before line
    by_name h (inl in_List) = by_given (position_in (name_in line) sheet_names) h (listed_at (name_in line) in_List) (is_given (name_in line) before) refl
    by_name h (inr past) = is_due NAME (name_due h (λ k l. omega (arith, listed_position (name_in line) k l, l.inside)))

    by_equals : (index_of EQUALS line < length line) ⊎ (length line ≤ index_of EQUALS line) → LineView before line
    by_equals (inl h) = by_name h (before_or_not (position_in (name_in line) sheet_names) (length sheet_names))
    by_equals (inr h) = is_due LINE (equals_due (λ b. omega arith))

-- not both
pub fine_not_due : (before : List (List ℕ)) (line : List ℕ) (n : ℕ) → Fine before line → LineDue before line n → ⊥
fine_not_due before line n f d = not_done n 0 (sym (due_refused before 0 line n d).0 ∙ fine_done before 0 line f)

-- 12 is due only for a name that is not on the list
pub name_only : (before : List (List ℕ)) (line : List ℕ) (n : ℕ) → LineDue before line n → n ≡ NAME → HasEquals line × Unlisted (name_in line)
name_only before line n (equals_due h) e = absurd (omega arith)
name_only before line n (name_due h u) e = (h, u)
name_only before line n (again_due k h l g) e = absurd (omega arith)
name_only before line n (number_due k h l g none) e = absurd (omega arith)

-- ---- the lines, one by one

-- nothing is due for the first i lines
abbrev pub FineUpTo : List (List ℕ) → ℕ → Type 0
FineUpTo lines i = (j : ℕ) → j < i → Fine (take j lines) (get_or lines j [])

-- the first i lines are fine, or one of them is the first that something is due for
pub data UpTo (lines : List (List ℕ)) (i : ℕ) : Type 0 where
  fine_lines : FineUpTo lines i → UpTo lines i
  first_due : (j n : ℕ) → j < i → FineUpTo lines j → DueAt lines j n → UpTo lines i

pub up_to : (lines : List (List ℕ)) (i : ℕ) → UpTo lines i
up_to lines zero = fine_lines (λ j h. absurd (omega arith))
up_to lines (suc i) = go (up_to lines i) (line_view (take i lines) (get_or lines i []))
  where
    go : UpTo lines i → LineView (take i lines) (get_or lines i []) → UpTo lines (suc i)
    go (first_due j n h before d) v = first_due j n (omega arith) before d
    go (fine_lines all) (is_due n d) = first_due i n (omega arith) all d
    go (fine_lines all) (is_fine f) =
        fine_lines (λ j h. ⊎_elim (λ e. rw e f) (λ l. all j l) (eq-or-lt_of_le (le_of_suc-le-suc h)))

-- a line that is fine, and then the others
pub line_on : (before : List (List ℕ)) (p : ℕ) (line : List ℕ) (lines : List (List ℕ)) (rest : List ℕ) → Fine before line
    → lines_answer before p (line ∷ lines) rest ≡ lines_answer (before ++ line ∷ []) (p + length line + 1) lines rest
unfolding lines_answer
line_on before p line lines rest f =
    ap (λ (a : Answer). in_turn a (lines_answer (before ++ line ∷ []) (p + length line + 1) lines rest)) (fine_done before p line f)
