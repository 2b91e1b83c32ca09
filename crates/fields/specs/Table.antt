-- The tables of fields: of subframe 2 (document 01, "Subframe 2"; IS-GPS-800, Table 3.5-1) and of the pages of subframe 3 (document 01,
-- "Subframe 3"; IS-GPS-800, 3.5.4 and Table 3.5-3). A row is a field's name, its width in bits, its sign and its range.
-- Assumes nothing.
use Rattle.std.specs.Prelude.{Bool, true, false, cond, ◌&&◌, List, [], ◌∷◌, map, ℕ, ◌+◌, ◌-◌, ◌^◌, eqb, ltb, replicate, take}
use Prim.Native.String.{String}
use Rattle.fields.specs.declared.table.Field.{Field}
use Rattle.fields.specs.declared.table.Table.{Table}
use Rattle.fields.specs.declared.table.Table.TheVariants.{Subframe2, Page1, Page6, NoFields}

-- a row: the name for people, and the field
pub record NamedField : Type 0 where
  pub name : String
  pub field : Field

-- without a sign, the counts from `least` to `most`
abbrev pub ranged : ℕ → ℕ → ℕ → String → NamedField
ranged w least most n = record { name = n; field = record { width = w; signed = false; least = least; most = most } }

-- without a sign, the counts up to `most`
abbrev pub at_most : ℕ → ℕ → String → NamedField
at_most w most n = ranged w 0 most n

-- without a sign, the whole width
abbrev pub unsigned : ℕ → String → NamedField
unsigned w n = at_most w (2 ^ w - 1) n

-- two's complement, the whole width: the counts from -(most + 1) to most
abbrev pub twos : ℕ → String → NamedField
twos w n = record { name = n; field = record { width = w; signed = true; least = 0; most = 2 ^ (w - 1) - 1 } }

-- the 33 fields of subframe 2, in order from bit 1 (Table 3.5-1)
unfoldable pub subframe2_rows : List NamedField
subframe2_rows =
    unsigned 13 "wn"
    ∷ at_most 8 83 "itow"
    ∷ at_most 11 2015 "top"
    ∷ unsigned 1 "health"
    ∷ twos 5 "uraoe"
    ∷ at_most 11 2015 "toe"
    ∷ twos 26 "da"
    ∷ twos 25 "adot"
    ∷ twos 17 "dn0"
    ∷ twos 23 "dn0dot"
    ∷ twos 33 "m0"
    ∷ unsigned 33 "ecc"
    ∷ twos 33 "omega"
    ∷ twos 33 "omega0"
    ∷ twos 33 "i0"
    ∷ twos 17 "domegadot"
    ∷ twos 15 "idot"
    ∷ twos 16 "cis"
    ∷ twos 16 "cic"
    ∷ twos 24 "crs"
    ∷ twos 24 "crc"
    ∷ twos 21 "cus"
    ∷ twos 21 "cuc"
    ∷ twos 5 "uraoc"
    ∷ unsigned 3 "uraoc1"
    ∷ unsigned 3 "uraoc2"
    ∷ twos 26 "af0"
    ∷ twos 20 "af1"
    ∷ twos 10 "af2"
    ∷ twos 13 "tgd"
    ∷ twos 13 "iscp"
    ∷ twos 13 "iscd"
    ∷ unsigned 1 "isf"
    ∷ []

-- the fields of page 1, in order from bit 15 (3.5.4, Table 3.5-3); tot is a count of 16 s, and DN is 1 to 7
unfoldable pub page1_rows : List NamedField
page1_rows =
    twos 16 "A0"
    ∷ twos 13 "A1"
    ∷ twos 7 "A2"
    ∷ twos 8 "leap seconds"
    ∷ at_most 16 37799 "tot"
    ∷ unsigned 13 "WNot"
    ∷ unsigned 13 "WNLSF"
    ∷ ranged 4 1 7 "DN"
    ∷ twos 8 "future leap seconds"
    ∷ twos 8 "alpha0"
    ∷ twos 8 "alpha1"
    ∷ twos 8 "alpha2"
    ∷ twos 8 "alpha3"
    ∷ twos 8 "beta0"
    ∷ twos 8 "beta1"
    ∷ twos 8 "beta2"
    ∷ twos 8 "beta3"
    ∷ []

-- page 6, from bit 15: a 4-bit text page, then 29 bytes (3.5.4)
unfoldable pub page6_rows : List NamedField
page6_rows = unsigned 4 "text page" ∷ replicate 29 (unsigned 8 "text")

-- the rows of each table; a page that is carried as bits has none
abbrev pub rows_in : Table → List NamedField
rows_in Subframe2 = subframe2_rows
rows_in Page1 = page1_rows
rows_in Page6 = page6_rows
rows_in NoFields = []

-- their fields
unfoldable pub fields_in : Table → List Field
fields_in t = map (λ (row : NamedField). row.field) (rows_in t)

-- what stands where a table has no row: no bits, and only the count 0
abbrev pub no_field : Field
no_field = (at_most 0 0 "").field

-- the bits that fields take
unfoldable pub bit_count : List Field → ℕ
bit_count [] = 0
bit_count (f ∷ fs) = f.width + bit_count fs

-- the first bit, from 1, of the field k of a table that starts at bit 1
abbrev pub first_bit : Table → ℕ → ℕ
first_bit t k = bit_count (take k (fields_in t)) + 1

-- a row's bits hold its counts: some bits, fewer than 64, and with a sign every count of the width, without one only counts of the width
abbrev pub usable : Field → Bool
usable f =
    ltb 0 f.width
    && (ltb f.width 64
    && cond f.signed (eqb (f.most + 1) (2 ^ (f.width - 1)) && eqb f.least 0) (ltb f.most (2 ^ f.width)))

-- so it is for each of the fields
unfoldable pub all_usable : List Field → Bool
all_usable [] = true
all_usable (f ∷ fs) = usable f && all_usable fs
