-- The tables of fields: how many fields and bits, and that each row's bits hold its counts; a row of a table.
-- Assumes nothing.
use Rattle.std.specs.Prelude.{◌≡◌, refl, Bool, true, false, cond, ◌&&◌, List, [], ◌∷◌, ◌++◌, ℕ, suc, ◌+◌, ◌-◌, ◌^◌, ◌≤◌, ◌<◌, ltb, eqb, length, get_or, drop, replicate}
use Rattle.std.proofs.Common.{ap, ◌∙◌, add-one, arith, drop-cons}
use Rattle.std.proofs.Math.Bool.{and-eq-true_iff}
use Rattle.std.proofs.lemmas.List.{get_or-replicate}
use Rattle.std.proofs.Math.ListN.{get_or-map}
use borrow.Author.Tests.{ltb-true, eqb-true}
use Rattle.fields.specs.Table.{NamedField, at_most, unsigned, subframe2_rows, page1_rows, page6_rows, fields_in, no_field, bit_count, usable, all_usable}
use Rattle.fields.specs.declared.table.Field.{Field}
use Rattle.fields.specs.declared.table.Table.{Table}
use Rattle.fields.specs.declared.table.Table.TheVariants.{Subframe2, Page1, Page6, NoFields}

-- ---- computed

pub usable_tables : (t : Table) → all_usable (fields_in t) ≡ true
unfolding fields_in subframe2_rows page1_rows page6_rows all_usable
usable_tables Subframe2 = refl
usable_tables Page1 = refl
usable_tables Page6 = refl
usable_tables NoFields = refl

pub count_subframe2 : length (fields_in Subframe2) ≡ 33
unfolding fields_in subframe2_rows
count_subframe2 = refl

pub count_page1 : length (fields_in Page1) ≡ 17
unfolding fields_in page1_rows
count_page1 = refl

pub count_page6 : length (fields_in Page6) ≡ 30
unfolding fields_in page6_rows
count_page6 = refl

pub count_no_fields : length (fields_in NoFields) ≡ 0
unfolding fields_in
count_no_fields = refl

pub bits_subframe2 : bit_count (fields_in Subframe2) ≡ 566
unfolding fields_in subframe2_rows bit_count
bits_subframe2 = refl

pub bits_page1 : bit_count (fields_in Page1) ≡ 162
unfolding fields_in page1_rows bit_count
bits_page1 = refl

pub bits_page6 : bit_count (fields_in Page6) ≡ 236
unfolding fields_in page6_rows bit_count
bits_page6 = refl

pub bits_no_fields : bit_count (fields_in NoFields) ≡ 0
unfolding fields_in bit_count
bits_no_fields = refl

pub bits_most : (t : Table) → bit_count (fields_in t) ≤ 566
bits_most Subframe2 = omega (arith, bits_subframe2)
bits_most Page1 = omega (arith, bits_page1)
bits_most Page6 = omega (arith, bits_page6)
bits_most NoFields = omega (arith, bits_no_fields)

-- every field of page 6 but the first is a byte of text
pub page6_text : (k : ℕ) → suc k < length (fields_in Page6) → get_or (fields_in Page6) (suc k) no_field ≡ (unsigned 8 "text").field
unfolding fields_in page6_rows
page6_text k h =
    get_or-map (λ (row : NamedField). row.field) (replicate 29 (unsigned 8 "text")) k (at_most 0 0 "")
    ∙ ap (λ (row : NamedField). row.field) (get_or-replicate 29 k (unsigned 8 "text") (at_most 0 0 "") (omega arith))

-- ---- a row whose bits hold its counts

module _ (f : Field) (ok : usable f ≡ true) where
  fits : Bool
  fits = cond f.signed (eqb (f.most + 1) (2 ^ (f.width - 1)) && eqb f.least 0) (ltb f.most (2 ^ f.width))

  some : (ltb 0 f.width ≡ true) × ((ltb f.width 64 && fits) ≡ true)
  unfolding fits
  some = (and-eq-true_iff (ltb 0 f.width) (ltb f.width 64 && fits)).0 ok

  few : (ltb f.width 64 ≡ true) × (fits ≡ true)
  few = (and-eq-true_iff (ltb f.width 64) fits).0 some.1

  pub usable_some : 0 < f.width
  usable_some = ltb-true 0 f.width some.0

  pub usable_few : f.width < 64
  usable_few = ltb-true f.width 64 few.0

  pub usable_signed : f.signed ≡ true → (f.most + 1 ≡ 2 ^ (f.width - 1)) × (f.least ≡ 0)
  unfolding fits
  usable_signed e =
      let both = (and-eq-true_iff (eqb (f.most + 1) (2 ^ (f.width - 1))) (eqb f.least 0)).0 (rw e at few.1) in
      (eqb-true (f.most + 1) (2 ^ (f.width - 1)) both.0, eqb-true f.least 0 both.1)

  pub usable_unsigned : f.signed ≡ false → f.most < 2 ^ f.width
  unfolding fits
  usable_unsigned e = ltb-true f.most (2 ^ f.width) (rw e at few.1)

pub usable_head : (f : Field) (fs : List Field) → all_usable (f ∷ fs) ≡ true → usable f ≡ true
unfolding all_usable
usable_head f fs e = ((and-eq-true_iff (usable f) (all_usable fs)).0 e).0

pub usable_tail : (f : Field) (fs : List Field) → all_usable (f ∷ fs) ≡ true → all_usable fs ≡ true
unfolding all_usable
usable_tail f fs e = ((and-eq-true_iff (usable f) (all_usable fs)).0 e).1

-- ---- two tables, one after the other

pub bit_count_append : (fs gs : List Field) → bit_count (fs ++ gs) ≡ bit_count fs + bit_count gs
unfolding bit_count
bit_count_append [] gs = omega arith
bit_count_append (f ∷ fs) gs = omega (arith, bit_count_append fs gs)

pub usable_append : (fs gs : List Field) → all_usable fs ≡ true → all_usable gs ≡ true → all_usable (fs ++ gs) ≡ true
unfolding all_usable
usable_append [] gs h g = g
usable_append (f ∷ fs) gs h g =
    let both = (and-eq-true_iff (usable f) (all_usable fs)).0 h in
    (and-eq-true_iff (usable f) (all_usable (fs ++ gs))).1 (both.0, usable_append fs gs both.1 g)

-- ---- the first of the fields that are left, as a loop takes it

pub open_at : (fs : List Field) (k : ℕ) → k < length fs → drop k fs ≡ get_or fs k no_field ∷ drop (k + 1) fs
open_at fs k h = rw add-one (drop-cons fs k no_field h)

module _ {f : Field} {fs gs : List Field} (left : gs ≡ f ∷ fs) where
  pub bits_left : bit_count gs ≡ f.width + bit_count fs
  unfolding bit_count
  bits_left = ap bit_count left

  pub usable_left : all_usable gs ≡ true → (usable f ≡ true) × (all_usable fs ≡ true)
  unfolding all_usable
  usable_left h = (and-eq-true_iff (usable f) (all_usable fs)).0 (rw left at h)
