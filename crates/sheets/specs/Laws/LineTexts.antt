-- A line `name=number`: its name, its number, and the lines that have a name.
-- Assumes nothing.
use Rattle.std.specs.Prelude.{◌≡◌, refl, Bool, true, false, cond, ◌||◌, List, [], ◌∷◌, ◌++◌, ◌≢◌, ℕ, zero, suc, ◌+◌, ◌<◌, ℤ, length, get_or, take, drop}
use Rattle.std.proofs.Common.{sym, ap, ap₂, ◌∙◌, arith, length-append}
use Rattle.std.proofs.Math.Bool.{or-true}
use Rattle.std.proofs.Math.Seq.{take-append_seam, drop-append-add}
use Rattle.sheets.specs.Text.{EQUALS, index_of, same_bytes}
use Rattle.sheets.specs.Number.{numeral, value_in}
use Rattle.sheets.specs.Lines.{name_in, behind_equals, is_given, number_given}
use Rattle.sheets.specs.Sheet.{line_text}
use Rattle.sheets.specs.Due.{HasEquals, GivenBy}
use Rattle.sheets.specs.Laws.Text.{same_is, same_self, same_not, index_past, index_first, index_cut}

-- ---- one line

module _ (name : List ℕ) (z : ℤ) (free : index_of EQUALS name ≡ length name) where
  equals_at : index_of EQUALS (line_text name z) ≡ length name
  equals_at = omega (arith, index_past EQUALS name (EQUALS ∷ numeral z) free, index_first EQUALS (numeral z))

  pub line_has : HasEquals (line_text name z)
  line_has = omega (arith, equals_at, length-append name (EQUALS ∷ numeral z))

  pub line_name : name_in (line_text name z) ≡ name
  line_name = ap (λ (i : ℕ). take i (line_text name z)) equals_at ∙ take-append_seam name (EQUALS ∷ numeral z)

  pub line_number : behind_equals (line_text name z) ≡ numeral z
  line_number = ap (λ (i : ℕ). drop (i + 1) (line_text name z)) equals_at ∙ drop-append-add name (EQUALS ∷ numeral z) 1

-- a line with a name and a number behind it is this text
pub line_is : (line name : List ℕ) (z : ℤ) → HasEquals line → name_in line ≡ name → behind_equals line ≡ numeral z → line ≡ line_text name z
line_is line name z h n e = index_cut EQUALS line h ∙ ap₂ (λ (x y : List ℕ). x ++ EQUALS ∷ y) n e

-- ---- the lines that have a name

pub given_is : (name : List ℕ) (lines : List (List ℕ)) → is_given name lines ≡ true → GivenBy name lines
unfolding is_given
given_is name [] e = absurd (let z : ◌≡◌ {A = ℕ} 0 1 = cc in omega arith)
given_is name (line ∷ lines) e = go (same_bytes name (name_in line)) refl e (given_is name lines)
  where
    go : (t : Bool) → same_bytes name (name_in line) ≡ t → (t || is_given name lines) ≡ true → (is_given name lines ≡ true → GivenBy name lines)
        → GivenBy name (line ∷ lines)
    go true s f later = record { index = 0; inside = omega arith; named = sym (same_is name (name_in line) s) }
    go false s f later =
        let g = later f in
        record { index = suc g.index; inside = omega (arith, g.inside); named = g.named }

given_line : (name : List ℕ) (lines : List (List ℕ)) (i : ℕ) → i < length lines → name_in (get_or lines i []) ≡ name → is_given name lines ≡ true
unfolding is_given
given_line name [] i h e = absurd (omega arith)
given_line name (line ∷ lines) zero h e =
    let s : same_bytes name (name_in line) ≡ true = ap (same_bytes name) e ∙ same_self name in
    ap (λ (t : Bool). t || is_given name lines) s
given_line name (line ∷ lines) (suc i) h e =
    ap (λ (t : Bool). same_bytes name (name_in line) || t) (given_line name lines i (omega arith) e) ∙ or-true (same_bytes name (name_in line))

pub given_when : (name : List ℕ) (lines : List (List ℕ)) → GivenBy name lines → is_given name lines ≡ true
given_when name lines g = given_line name lines g.index g.inside g.named

pub not_given : (name : List ℕ) (lines : List (List ℕ)) → (GivenBy name lines → ⊥) → is_given name lines ≡ false
not_given name lines h = go (is_given name lines) refl
  where
    go : (t : Bool) → is_given name lines ≡ t → is_given name lines ≡ false
    go true e = absurd (h (given_is name lines e))
    go false e = e

-- the number given for a name is that of the first line that has it
pub number_given_lem : (name : List ℕ) (lines : List (List ℕ)) (i : ℕ) → i < length lines → name_in (get_or lines i []) ≡ name
    → ((j : ℕ) → j < i → name_in (get_or lines j []) ≢ name) → number_given name lines ≡ value_in (behind_equals (get_or lines i []))
unfolding number_given
number_given_lem name [] i h e before = absurd (omega arith)
number_given_lem name (line ∷ lines) zero h e before =
    ap (λ (t : Bool). cond t (value_in (behind_equals line)) (number_given name lines)) (ap (same_bytes name) e ∙ same_self name)
number_given_lem name (line ∷ lines) (suc i) h e before =
    ap (λ (t : Bool). cond t (value_in (behind_equals line)) (number_given name lines))
    (same_not name (name_in line) (λ s. before 0 (omega arith) (sym s)))
    ∙ number_given_lem name lines i (omega arith) e (λ j k. before (suc j) (omega arith))
