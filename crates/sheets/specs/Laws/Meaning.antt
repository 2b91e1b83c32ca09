-- Lines that nothing is due for are those of the list's names and their numbers, in any order, and the other way round.
-- Assumes nothing.
use Rattle.std.specs.Prelude.{◌≡◌, refl, List, [], ◌≢◌, ◌⊎◌, ℕ, zero, suc, ◌≤◌, ◌<◌, ℤ, pos, length, get_or}
use Rattle.std.proofs.Common.{sym, ap, ap₂, ◌∙◌, inl, inr, arith, length-take, get_or-take}
use Rattle.tables.specs.Laws.Cases.{before_or_not}
use Rattle.fields.specs.Table.{no_field}
use Rattle.fields.specs.Counts.{in_range, AllInRange}
use Rattle.sheets.specs.Text.{occurrences}
use Rattle.sheets.specs.List.{sheet_names, sheet_fields, position_in}
use Rattle.sheets.specs.Number.{value_in, numeral}
use Rattle.sheets.specs.Lines.{name_in, behind_equals, number_given, numbers_in}
use Rattle.sheets.specs.Sheet.{line_text, line_texts, SameLines}
use Rattle.sheets.specs.Due.{Listed}
use Rattle.sheets.specs.Laws.List.{fields_many, name_position, name_no_equals}
use Rattle.sheets.specs.Laws.Numerals.{numeral_value}
use Rattle.sheets.specs.Laws.Bags.{occurs_among, among_occurs, at_most_once, line_texts_many, line_texts_at}
use Rattle.sheets.specs.Laws.LineTexts.{line_name, line_is, number_given_lem}
use Rattle.sheets.specs.Laws.Lines.{numbers_many, number_at}
use Rattle.sheets.specs.Laws.Judging.{FineUpTo}
use Rattle.sheets.specs.Laws.Missing.{AllGiven}

abbrev pub name_at : ℕ → List ℕ
name_at k = get_or sheet_names k []

-- two names of the list that are the same stand at one position
pub same_position : (k j : ℕ) → k < length sheet_names → j < length sheet_names → name_at k ≡ name_at j → k ≡ j
same_position k j h b e = sym (name_position k h) ∙ ap (λ (x : List ℕ). position_in x sheet_names) e ∙ name_position j b

-- ---- the lines of the list

module _ (zs : List ℤ) (many : length sheet_names ≡ length zs) where
  abbrev pub texts : List (List ℕ)
  texts = line_texts sheet_names zs

  abbrev pub text_at : ℕ → List ℕ
  text_at k = line_text (name_at k) (get_or zs k (pos 0))

  pub text_at_lem : (k : ℕ) → k < length sheet_names → get_or texts k [] ≡ text_at k
  text_at_lem k h = line_texts_at sheet_names zs k many h

  -- one of them is that of some position
  pub record TextOf (x : List ℕ) : Type 0 where
    pub index : ℕ
    pub inside : index < length sheet_names
    pub is : x ≡ text_at index

  pub text_of : (x : List ℕ) → 0 < occurrences x texts → TextOf x
  text_of x h =
      let a = occurs_among x texts h in
      let inside : a.index < length sheet_names = omega (arith, a.inside, line_texts_many sheet_names zs many) in
      record { index = a.index; inside = inside; is = sym a.is ∙ text_at_lem a.index inside }

  pub of_text : (x : List ℕ) (k : ℕ) → k < length sheet_names → x ≡ text_at k → 0 < occurrences x texts
  of_text x k h e =
      rw (e ∙ sym (text_at_lem k h)) (among_occurs texts k (omega (arith, line_texts_many sheet_names zs many)))

  pub text_name : (k : ℕ) → k < length sheet_names → name_in (text_at k) ≡ name_at k
  text_name k h = line_name (name_at k) (get_or zs k (pos 0)) (name_no_equals k h)

  pub texts_once : (x : List ℕ) → occurrences x texts ≤ 1
  texts_once x =
      at_most_once x texts
      (λ i j a b e.
      let h : i < length sheet_names = omega (arith, line_texts_many sheet_names zs many) in
      let g : j < length sheet_names = omega (arith, line_texts_many sheet_names zs many) in
      same_position i j h g (sym (text_name i h) ∙ ap name_in (sym (text_at_lem i h) ∙ e ∙ text_at_lem j g) ∙ text_name j g))

-- ---- lines that nothing is due for

module _ (lines : List (List ℕ)) (each : FineUpTo lines (length lines)) where
  abbrev pub line_at : ℕ → List ℕ
  line_at i = get_or lines i []

  pub fine_many : length sheet_names ≡ length (numbers_in lines)
  fine_many = sym (numbers_many lines)

  -- no line before has the same name
  pub first_named : (i j : ℕ) → i < length lines → j < i → name_in (line_at j) ≢ name_in (line_at i)
  first_named i j h b e =
      (each i h).new
      (record {
        index = j;
        inside = omega (arith, length-take i lines);
        named = ap name_in (get_or-take i lines j [] b) ∙ e;
      })

  pub only_named : (i j : ℕ) → i < length lines → j < length lines → name_in (line_at i) ≡ name_in (line_at j) → i ≡ j
  only_named i j h b e = go (before_or_not i j) (before_or_not j i)
    where
      go : (i < j) ⊎ (j ≤ i) → (j < i) ⊎ (i ≤ j) → i ≡ j
      go (inl less) more = absurd (first_named j i b less e)
      go (inr a) (inl more) = absurd (first_named i j h more (sym e))
      go (inr a) (inr c) = omega arith

  -- the number of its position is the line's own
  pub number_is : (i k : ℕ) → i < length lines → Listed (name_in (line_at i)) k → get_or (numbers_in lines) k (pos 0) ≡ value_in (behind_equals (line_at i))
  number_is i k h l =
      number_at lines k l.inside
      ∙ ap (λ (x : List ℕ). number_given x lines) l.is
      ∙ number_given_lem (name_in (line_at i)) lines i h refl (λ j b. first_named i j h b)

  count_is : (i : ℕ) (h : i < length lines) → get_or (numbers_in lines) (each i h).index (pos 0) ≡ (each i h).number.count
  count_is i h =
      number_is i (each i h).index h (each i h).listed ∙ ap value_in (each i h).number.written ∙ numeral_value (each i h).number.count

  pub fine_text : (i : ℕ) (h : i < length lines) → line_at i ≡ line_text (name_at (each i h).index) (get_or (numbers_in lines) (each i h).index (pos 0))
  fine_text i h =
      line_is (line_at i) (name_at (each i h).index) (get_or (numbers_in lines) (each i h).index (pos 0)) (each i h).has (sym (each i h).listed.is)
      ((each i h).number.written ∙ ap numeral (sym (count_is i h)))

  lines_once : (x : List ℕ) → occurrences x lines ≤ 1
  lines_once x = at_most_once x lines (λ i j a b e. only_named i j a b (ap name_in e))

  module _ (given : AllGiven lines) where
    -- the line of a name
    pub line_of : (k : ℕ) (h : k < length sheet_names) → (each (given k h).index (given k h).inside).index ≡ k
    line_of k h =
        let g = given k h in
        let f = each g.index g.inside in
        same_position f.index k f.listed.inside h (f.listed.is ∙ g.named)

    pub fine_range : AllInRange sheet_fields (numbers_in lines)
    fine_range = record {
      as_many = numbers_many lines ∙ sym fields_many;
      each = λ k b.
          let h : k < length sheet_names = omega (arith, fields_many) in
          let i = (given k h).index in
          let f = each i (given k h).inside in
          let e = line_of k h in
          ap₂ (λ (j : ℕ) (z : ℤ). in_range (get_or sheet_fields j no_field) z) (sym e)
          (ap (λ (j : ℕ). get_or (numbers_in lines) j (pos 0)) (sym e) ∙ count_is i (given k h).inside)
          ∙ f.number.within_range;
    }

    to_texts : (x : List ℕ) → 0 < occurrences x lines → 0 < occurrences x (line_texts sheet_names (numbers_in lines))
    to_texts x h =
        let a = occurs_among x lines h in
        of_text (numbers_in lines) fine_many x (each a.index a.inside).index (each a.index a.inside).listed.inside
        (sym a.is ∙ fine_text a.index a.inside)

    to_lines : (x : List ℕ) → 0 < occurrences x (line_texts sheet_names (numbers_in lines)) → 0 < occurrences x lines
    to_lines x h =
        let t = text_of (numbers_in lines) fine_many x h in
        let g = given t.index t.inside in
        let is : x ≡ line_at g.index =
        t.is
        ∙ ap (λ (j : ℕ). line_text (name_at j) (get_or (numbers_in lines) j (pos 0))) (sym (line_of t.index t.inside))
        ∙ sym (fine_text g.index g.inside)
        in
        rw is (among_occurs lines g.index g.inside)

    pub fine_same : SameLines lines (line_texts sheet_names (numbers_in lines))
    fine_same = record {
      each = λ x. equal (occurrences x lines) (occurrences x (line_texts sheet_names (numbers_in lines))) (lines_once x)
          (texts_once (numbers_in lines) fine_many x) (to_texts x) (to_lines x);
    }
      where
        equal : (a b : ℕ) → a ≤ 1 → b ≤ 1 → (0 < a → 0 < b) → (0 < b → 0 < a) → a ≡ b
        equal zero zero h g to from = refl
        equal zero (suc b) h g to from = absurd (omega (arith, from (omega arith)))
        equal (suc a) zero h g to from = absurd (omega (arith, to (omega arith)))
        equal (suc a) (suc b) h g to from = omega arith
