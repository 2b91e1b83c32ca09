-- How long a sheet is at most, and which numbers are good.
-- Assumes nothing.
use Rattle.std.specs.Prelude.{◌≡◌, refl, Bool, true, false, ◌&&◌, List, [], ◌∷◌, ◌++◌, map, ℕ, zero, suc, ◌+◌, ◌*◌, ◌/◌, ◌%◌, ◌^◌, ◌≤◌, ◌<◌, eqb, leb, ltb, ℤ, pos, negsuc, length}
use Rattle.std.proofs.Common.{ap, ◌∙◌, pow-suc, arith, length-append, eqb-true, leb-true, ltb-true, ltb-false}
use Rattle.std.proofs.Math.Bool.{and-eq-true_iff}
use Rattle.std.specs.Int.Signed.{mag}
use Rattle.words.specs.Refusal.{TIME, FIELD_2, done_if, in_turn, Done}
use Rattle.words.specs.Time.{LAST_TOI}
use Rattle.words.specs.Laws.Turns.{both_done, test_done}
use Rattle.fields.specs.Table.{NamedField, at_most, fields_in, subframe2_rows}
use Rattle.fields.specs.Counts.{in_range, AllInRange, first_out}
use Rattle.fields.specs.CountsBack.{none_out, in_range_none_out}
use Rattle.fields.specs.Laws.Table.{count_subframe2}
use Rattle.fields.specs.Laws.Counts.{range_most, range_head, range_tail, more_in_range}
use Rattle.fields.specs.Subframe2.{counts_answer}
use Rattle.fields.specs.declared.table.Field.{Field}
use Rattle.fields.specs.declared.table.Table.TheVariants.{Subframe2}
use Rattle.sheets.specs.Text.{LINE_END, EQUALS, bytes_in, ended_by}
use Rattle.sheets.specs.List.{NUMBERS, sheet_rows, sheet_names, sheet_fields}
use Rattle.sheets.specs.Number.{decimal_by, decimal, numeral}
use Rattle.sheets.specs.Trailer.{TRAILER_BYTES, trailer_text}
use Rattle.sheets.specs.Sheet.{line_text, line_texts}
use Rattle.sheets.specs.Write.{sheet_text, numbers_answer}
use Rattle.sheets.specs.Laws.List.{listed_many, fields_many}
use Rattle.sheets.specs.Laws.Trailer.{trailer_long}

-- ---- which numbers are good

-- the first field of the list; the fields of subframe 2 stand behind it
abbrev pub toi_field : Field
toi_field = (at_most 9 LAST_TOI "toi").field

-- judged good, each is in its field's range
pub good_range : (zs : List ℤ) → length zs ≡ NUMBERS → numbers_answer zs ≡ Done → AllInRange sheet_fields zs
unfolding sheet_fields sheet_rows fields_in
good_range [] n e = absurd (omega arith)
good_range (z ∷ zs) n e =
    let both = both_done (done_if (in_range toi_field z) TIME 0) (counts_answer zs) e in
    let out = first_out 0 (fields_in Subframe2) zs in
    more_in_range toi_field (fields_in Subframe2) z zs (test_done (in_range toi_field z) TIME 0 both.0)
    (none_out 0 (fields_in Subframe2) zs (omega (arith, count_subframe2)) (eqb-true out 0 (test_done (eqb out 0) FIELD_2 out both.1)))

range_done : (zs : List ℤ) → AllInRange sheet_fields zs → numbers_answer zs ≡ Done
unfolding sheet_fields sheet_rows fields_in
range_done [] a = absurd (omega (arith, a.as_many))
range_done (z ∷ zs) a =
    ap (λ (t : Bool). in_turn (done_if t TIME 0) (counts_answer zs)) (range_head toi_field (fields_in Subframe2) z zs a)
    ∙ ap (λ (n : ℕ). done_if (eqb n 0) FIELD_2 n)
    (in_range_none_out 0 (fields_in Subframe2) zs (range_tail toi_field (fields_in Subframe2) z zs a))

-- and the other way about
pub range_good : (zs : List ℤ) → AllInRange sheet_fields zs → (length zs ≡ NUMBERS) × (numbers_answer zs ≡ Done)
range_good zs a = (a.as_many ∙ fields_many ∙ listed_many, range_done zs a)

-- ---- how long a number is

digits_step : (t : Bool) (n k : ℕ) (l : List ℕ) → ltb n 10 ≡ t → n < 10 ^ suc k
    → ((j : ℕ) → n / 10 < 10 ^ suc j → length l ≤ suc j)
    → length {A = ℕ} (elim t [ true ↦ (48 + n) ∷ [] | false ↦ l ++ (48 + n % 10) ∷ [] ]) ≤ suc k
digits_step true n k l e h shorter = omega arith
digits_step false n zero l e h shorter = absurd (omega (arith, ltb-false n 10 e))
digits_step false n (suc k) l e h shorter =
    let less : n / 10 < 10 ^ suc k = omega (arith, pow-suc 10 (suc k)) in
    omega (arith, length-append l ((48 + n % 10) ∷ []), shorter k less)

-- a number below a power of ten has no more digits than that power has zeros
digits_few : (most n k : ℕ) → n < 10 ^ suc k → length (decimal_by most n) ≤ suc k
unfolding decimal_by
digits_few zero n k h = omega arith
digits_few (suc most) n k h = digits_step (ltb n 10) n k (decimal_by most (n / 10)) refl h (digits_few most (n / 10))

-- a number of 64 bits has at most 20 digits
pub decimal_short : (n : ℕ) → n < 2 ^ 64 → length (decimal n) ≤ 20
unfolding decimal
decimal_short n h = digits_few (suc n) n 19 (omega arith)

numeral_short : (z : ℤ) → mag z < 99999999999 → length (numeral z) ≤ 12
unfolding numeral decimal
numeral_short (pos n) h = omega (arith, digits_few (suc n) n 10 (omega arith))
numeral_short (negsuc n) h = omega (arith, digits_few (suc (suc n)) (suc n) 10 (omega arith))

-- ---- how long the lines are

-- one computed test: a row whose lines have at most 22 bytes, without their end
abbrev short_row : NamedField → Bool
short_row row = leb (length (bytes_in row.name)) 9 && ltb row.field.most 99999999999

all_short : List NamedField → Bool
all_short [] = true
all_short (row ∷ rows) = short_row row && all_short rows

rows_short : all_short sheet_rows ≡ true
unfolding all_short sheet_rows subframe2_rows
rows_short = refl

line_short : (row : NamedField) (z : ℤ) → short_row row ≡ true → in_range row.field z ≡ true
    → length (line_text (bytes_in row.name) z) ≤ 22
line_short row z ok h =
    let name = bytes_in row.name in
    let both = (and-eq-true_iff (leb (length name) 9) (ltb row.field.most 99999999999)).0 ok in
    let most = ltb-true row.field.most 99999999999 both.1 in
    let number = numeral_short z (omega (arith, range_most row.field z h)) in
    omega (arith, length-append name (EQUALS ∷ numeral z), leb-true (length name) 9 both.0)

abbrev names_of : List NamedField → List (List ℕ)
names_of rows = map (λ (row : NamedField). bytes_in row.name) rows

abbrev fields_of : List NamedField → List Field
fields_of rows = map (λ (row : NamedField). row.field) rows

lines_of_rows : (rows : List NamedField) (zs : List ℤ) → all_short rows ≡ true → AllInRange (fields_of rows) zs
    → length (ended_by LINE_END (line_texts (names_of rows) zs)) ≤ 23 * length (names_of rows)
unfolding all_short ended_by line_texts
lines_of_rows [] zs ok a = omega arith
lines_of_rows (row ∷ rows) [] ok a = omega arith
lines_of_rows (row ∷ rows) (z ∷ zs) ok a =
    let both = (and-eq-true_iff (short_row row) (all_short rows)).0 ok in
    let line = line_short row z both.0 (range_head row.field (fields_of rows) z zs a) in
    let others = lines_of_rows rows zs both.1 (range_tail row.field (fields_of rows) z zs a) in
    omega
    (arith, length-append (line_text (bytes_in row.name) z) (LINE_END ∷ ended_by LINE_END (line_texts (names_of rows) zs)))

pub lines_short : (zs : List ℤ) → AllInRange sheet_fields zs → length (ended_by LINE_END (line_texts sheet_names zs)) ≤ 789
unfolding sheet_names sheet_fields
lines_short zs a = omega (arith, lines_of_rows sheet_rows zs rows_short a, listed_many)

-- ---- how long a sheet is

pub sheet_long : (zs : List ℤ) → length (sheet_text zs) ≡ length (ended_by LINE_END (line_texts sheet_names zs)) + TRAILER_BYTES
unfolding sheet_text
sheet_long zs =
    let lines = ended_by LINE_END (line_texts sheet_names zs) in
    omega (arith, length-append lines (trailer_text (length lines)), trailer_long (length lines))

pub sheet_short : (zs : List ℤ) → length zs ≡ NUMBERS → numbers_answer zs ≡ Done → length (sheet_text zs) ≤ 800
sheet_short zs n e = omega (arith, sheet_long zs, lines_short zs (good_range zs n e))
