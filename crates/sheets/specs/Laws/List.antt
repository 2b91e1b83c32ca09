-- The list of a sheet: what is true of every name and every field of it, and a name's position.
-- Assumes nothing.
use Rattle.std.specs.Prelude.{◌≡◌, refl, Bool, true, ◌&&◌, List, [], ◌∷◌, ℕ, ◌+◌, ◌<◌, eqb, ltb, length, get_or}
use Rattle.std.proofs.Common.{sym, ◌∙◌, arith, eqb-true, ltb-true}
use Rattle.std.proofs.Math.Bool.{and-eq-true_iff}
use Rattle.std.proofs.Math.Decide.{dec_lt}
use Rattle.std.proofs.lemmas.List.{length-map}
use Rattle.std.proofs.Math.ListN.{get_or-eq_default}
use Rattle.words.specs.Laws.Tests.{all_below, below_at}
use Rattle.fields.specs.Table.{NamedField, subframe2_rows, no_field}
use Rattle.sheets.specs.Text.{bytes_in, LINE_END, EQUALS, index_of, same_bytes}
use Rattle.sheets.specs.List.{sheet_rows, sheet_names, sheet_fields, NUMBERS, position_in}
use Rattle.sheets.specs.Laws.Steps.{BEYOND}
use Rattle.sheets.specs.Laws.Text.{same_is, count_at}

-- ---- computed

pub listed_many : length sheet_names ≡ NUMBERS
unfolding sheet_names sheet_rows subframe2_rows
listed_many = refl

-- each stands at the position where it is found
is_found : ℕ → Bool
is_found k = eqb (position_in (get_or sheet_names k []) sheet_names) k

all_found : all_below is_found (length sheet_names) ≡ true
unfolding is_found all_below sheet_names sheet_rows subframe2_rows position_in same_bytes
all_found = refl

-- none has a line's end or an `=` in it
is_plain : ℕ → Bool
is_plain k =
    eqb (index_of LINE_END (get_or sheet_names k [])) (length (get_or sheet_names k []))
    && eqb (index_of EQUALS (get_or sheet_names k [])) (length (get_or sheet_names k []))

all_plain : all_below is_plain (length sheet_names) ≡ true
unfolding is_plain all_below sheet_names sheet_rows subframe2_rows index_of
all_plain = refl

-- the range of each ends below the number that is beyond every range
is_below : ℕ → Bool
is_below k = ltb ((get_or sheet_fields k no_field).most + 1) BEYOND

all_below_lem : all_below is_below (length sheet_fields) ≡ true
unfolding is_below all_below sheet_fields sheet_rows subframe2_rows
all_below_lem = refl

-- ---- what is true of each

pub fields_many : length sheet_fields ≡ length sheet_names
unfolding sheet_fields sheet_names
fields_many =
    length-map sheet_rows (λ (row : NamedField). row.field) ∙ sym (length-map sheet_rows (λ (row : NamedField). bytes_in row.name))

pub name_position : (k : ℕ) → k < length sheet_names → position_in (get_or sheet_names k []) sheet_names ≡ k
unfolding is_found
name_position k h = eqb-true (position_in (get_or sheet_names k []) sheet_names) k (below_at is_found (length sheet_names) all_found k h)

module _ (k : ℕ) (h : k < length sheet_names) where
  plain : (eqb (index_of LINE_END (get_or sheet_names k [])) (length (get_or sheet_names k [])) ≡ true)
      × (eqb (index_of EQUALS (get_or sheet_names k [])) (length (get_or sheet_names k [])) ≡ true)
  unfolding is_plain
  plain =
      (and-eq-true_iff
      (eqb (index_of LINE_END (get_or sheet_names k [])) (length (get_or sheet_names k [])))
      (eqb (index_of EQUALS (get_or sheet_names k [])) (length (get_or sheet_names k [])))
      ).0 (below_at is_plain (length sheet_names) all_plain k h)

  pub name_no_end : index_of LINE_END (get_or sheet_names k []) ≡ length (get_or sheet_names k [])
  name_no_end = eqb-true (index_of LINE_END (get_or sheet_names k [])) (length (get_or sheet_names k [])) plain.0

  pub name_no_equals : index_of EQUALS (get_or sheet_names k []) ≡ length (get_or sheet_names k [])
  name_no_equals = eqb-true (index_of EQUALS (get_or sheet_names k [])) (length (get_or sheet_names k [])) plain.1

-- also past the last field
pub fields_below : (k : ℕ) → (get_or sheet_fields k no_field).most + 1 < 1099511627776
unfolding is_below
fields_below k = by_place (dec_lt k (length sheet_fields))
  where
    by_place : Dec (k < length sheet_fields) → (get_or sheet_fields k no_field).most + 1 < 1099511627776
    by_place (yes h) = ltb-true ((get_or sheet_fields k no_field).most + 1) BEYOND (below_at is_below (length sheet_fields) all_below_lem k h)
    by_place (no h) = rw (get_or-eq_default sheet_fields no_field {n = k} (omega arith)) (omega arith)

-- ---- a name's position

pub position_name : (name : List ℕ) (names : List (List ℕ)) → position_in name names < length names
    → get_or names (position_in name names) [] ≡ name
unfolding position_in
position_name name [] h = absurd (omega arith)
position_name name (y ∷ names) h =
    count_at (same_bytes name y) y name [] names (position_in name names)
    (λ e. sym (same_is name y e)) (position_name name names) h
