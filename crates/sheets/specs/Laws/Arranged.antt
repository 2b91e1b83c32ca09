-- The lines of the list's names and numbers that are in range, in any order: nothing is due for them, and they give these numbers.
-- Assumes nothing.
use Rattle.std.specs.Prelude.{◌≡◌, refl, true, List, [], ◌∷◌, ℕ, suc, ◌+◌, ◌<◌, ℤ, pos, length, get_or, take}
use Rattle.std.proofs.Common.{sym, ap, ◌∙◌, arith, length-append, length-take, get_or-take, ext_get_or}
use Rattle.fields.specs.Table.{no_field}
use Rattle.fields.specs.Counts.{in_range, AllInRange}
use Rattle.sheets.specs.Text.{LINE_END, EQUALS, index_of}
use Rattle.sheets.specs.List.{sheet_names, sheet_fields}
use Rattle.sheets.specs.Number.{value_in, numeral}
use Rattle.sheets.specs.Lines.{name_in, behind_equals, numbers_in}
use Rattle.sheets.specs.Sheet.{line_text, line_texts, SameLines}
use Rattle.sheets.specs.Due.{GivenBy}
use Rattle.sheets.specs.Laws.Text.{index_past, Without}
use Rattle.sheets.specs.Laws.List.{fields_many, name_no_end, name_no_equals}
use Rattle.sheets.specs.Laws.Numerals.{numeral_value, numeral_without}
use Rattle.sheets.specs.Laws.Bags.{occurs_among, among_occurs, twice}
use Rattle.sheets.specs.Laws.LineTexts.{line_has, line_name, line_number}
use Rattle.sheets.specs.Laws.Lines.{numbers_many}
use Rattle.sheets.specs.Laws.Judging.{Fine, FineUpTo}
use Rattle.sheets.specs.Laws.Meaning.{name_at, same_position, text_at, TextOf, text_of, of_text, text_name, texts_once, number_is}
use Rattle.sheets.specs.Laws.Missing.{AllGiven}

-- no byte of a line ends it
text_no_end : (k : ℕ) (z : ℤ) → k < length sheet_names → index_of LINE_END (line_text (name_at k) z) ≡ length (line_text (name_at k) z)
unfolding index_of
text_no_end k z h =
    index_past LINE_END (name_at k) (EQUALS ∷ numeral z) (name_no_end k h)
    ∙ ap (λ (n : ℕ). length (name_at k) + suc n) (numeral_without LINE_END (omega arith) z)
    ∙ sym (length-append (name_at k) (EQUALS ∷ numeral z))

pub without_each : (b : ℕ) (parts : List (List ℕ)) → ((i : ℕ) → i < length parts → index_of b (get_or parts i []) ≡ length (get_or parts i [])) → Without b parts
without_each b [] h = tt
without_each b (part ∷ parts) h = (h 0 (omega arith), without_each b parts (λ i g. h (suc i) (omega arith)))

-- a line of the list is fine where its name is not given before
text_fine : (before : List (List ℕ)) (k : ℕ) (z : ℤ) → k < length sheet_names → in_range (get_or sheet_fields k no_field) z ≡ true
    → (GivenBy (name_at k) before → ⊥) → Fine before (line_text (name_at k) z)
text_fine before k z h r new =
    let free = name_no_equals k h in
    let name = line_name (name_at k) z free in
    record {
      has = line_has (name_at k) z free;
      index = k;
      listed = record { inside = h; is = sym name };
      new = λ g. new (record { index = g.index; inside = g.inside; named = g.named ∙ name });
      number = record { count = z; written = line_number (name_at k) z free; within_range = r };
    }

module _ (zs : List ℤ) (range : AllInRange sheet_fields zs) (lines : List (List ℕ)) (same : SameLines lines (line_texts sheet_names zs)) where
  pub many : length sheet_names ≡ length zs
  many = sym fields_many ∙ sym range.as_many

  -- each line is that of some name
  pub arranged : (i : ℕ) → i < length lines → TextOf zs many (get_or lines i [])
  arranged i h = text_of zs many (get_or lines i []) (omega (arith, same.each (get_or lines i []), among_occurs lines i h))

  pub arranged_without : Without LINE_END lines
  arranged_without =
      without_each LINE_END lines
      (λ i h.
      let t = arranged i h in
      rw t.is (text_no_end t.index (get_or zs t.index (pos 0)) t.inside))

  -- two lines of one name are one line
  once : (i j : ℕ) → j < i → i < length lines → name_in (get_or lines j []) ≡ name_in (get_or lines i []) → ⊥
  once i j less h e =
      let t = arranged i h in
      let u = arranged j (omega arith) in
      let names : name_at u.index ≡ name_at t.index =
      sym (text_name zs many u.index u.inside) ∙ ap name_in (sym u.is) ∙ e ∙ ap name_in t.is ∙ text_name zs many t.index t.inside
      in
      let k = same_position u.index t.index u.inside t.inside names in
      let line : get_or lines j [] ≡ get_or lines i [] = u.is ∙ ap (text_at zs many) k ∙ sym t.is in
      omega (arith, twice lines j i less h line, same.each (get_or lines i []), texts_once zs many (get_or lines i []))

  pub arranged_fine : FineUpTo lines (length lines)
  arranged_fine i h =
      let t = arranged i h in
      let k = t.index in
      let name : name_in (get_or lines i []) ≡ name_at k = ap name_in t.is ∙ text_name zs many k t.inside in
      rw t.is
      (text_fine (take i lines) k (get_or zs k (pos 0)) t.inside (range.each k (omega (arith, t.inside, fields_many)))
      (λ g.
      let less : g.index < i = omega (arith, g.inside, length-take i lines) in
      once i g.index less h (sym (ap name_in (get_or-take i lines g.index [] less)) ∙ g.named ∙ sym name)))

  -- the line of each name is there
  pub arranged_given : AllGiven lines
  arranged_given k h =
      let some = of_text zs many (text_at zs many k) k h refl in
      let a = occurs_among (text_at zs many k) lines (omega (arith, some, same.each (text_at zs many k))) in
      record { index = a.index; inside = a.inside; named = ap name_in a.is ∙ text_name zs many k h }

  number_of : (k : ℕ) → k < length sheet_names → get_or (numbers_in lines) k (pos 0) ≡ get_or zs k (pos 0)
  number_of k h =
      let g = arranged_given k h in
      let t = arranged g.index g.inside in
      let names : name_at t.index ≡ name_at k = sym (text_name zs many t.index t.inside) ∙ ap name_in (sym t.is) ∙ g.named in
      let j = same_position t.index k t.inside h names in
      number_is lines arranged_fine g.index k g.inside (record { inside = h; is = sym g.named })
      ∙ ap (λ (x : List ℕ). value_in (behind_equals x)) (t.is ∙ ap (text_at zs many) j)
      ∙ ap value_in (line_number (name_at k) (get_or zs k (pos 0)) (name_no_equals k h))
      ∙ numeral_value (get_or zs k (pos 0))

  pub arranged_numbers : numbers_in lines ≡ zs
  arranged_numbers =
      ext_get_or (pos 0) (numbers_in lines) zs (numbers_many lines ∙ many) (λ k h. number_of k (omega (arith, numbers_many lines)))
