-- The list of a sheet (document 01, "The sheet"): toi, and the 33 names of subframe 2, each with its field.
-- Assumes nothing.
use Rattle.std.specs.Prelude.{cond, List, [], ◌∷◌, map, ℕ, suc}
use Rattle.words.specs.Time.{LAST_TOI}
use Rattle.fields.specs.Table.{NamedField, at_most, rows_in}
use Rattle.fields.specs.declared.table.Field.{Field}
use Rattle.fields.specs.declared.table.Table.TheVariants.{Subframe2}
use Rattle.sheets.specs.Text.{bytes_in, same_bytes}

-- toi stands before the fields of subframe 2: 9 bits, 0 to 399 (document 01, "The frame")
unfoldable pub sheet_rows : List NamedField
sheet_rows = at_most 9 LAST_TOI "toi" ∷ rows_in Subframe2

-- their names
unfoldable pub sheet_names : List (List ℕ)
sheet_names = map (λ (row : NamedField). bytes_in row.name) sheet_rows

-- their fields
unfoldable pub sheet_fields : List Field
sheet_fields = map (λ (row : NamedField). row.field) sheet_rows

-- a sheet has 34 numbers, that of toi first
abbrev pub NUMBERS : ℕ
NUMBERS = 34

-- how many names stand before the first that is this one: all, where there is none
unfoldable pub position_in : List ℕ → List (List ℕ) → ℕ
position_in name [] = 0
position_in name (y ∷ names) = cond (same_bytes name y) 0 (suc (position_in name names))
