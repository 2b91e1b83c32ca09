-- Rows of known results (document 01, "Known results"). What is given and what is expected are lists of numbers, so that all rows have
-- one type: the number and place of an answer by the table "Numbers given on refusal", or 0 and 0 where nothing is refused, and then the
-- values, of which a refusal has none.
-- Assumes nothing.
use Rattle.std.specs.Prelude.{ℕ, ◌-◌, List, [], ◌∷◌, ◌++◌, map, replicate, ℤ, pos, slice_index_or, slice_set, Option, None, Some, Result, Ok, Err}
use Prim.Native.String.{String}
use Rattle.words.specs.Crc.{check_of}
use Rattle.words.specs.Refusal.{Answer, number_of, place_of, answer_of}
use Rattle.words.specs.Sums.{sums}
use Rattle.words.specs.Time.{time_answer, time_bytes, time_read}
use Rattle.words.specs.declared.refusal.Refusal.{Refusal}
use Rattle.words.specs.declared.time.Time.{Time}
use Rattle.parity.specs.Order.{place_in_order}
use Rattle.fields.specs.Delay.{delay_of}
use Rattle.fields.specs.Subframe2.{BITS_2, COUNTS_2, bits2, counts_judged, fields_read}
use Rattle.sheets.specs.List.{sheet_names, position_in}
use Rattle.sheets.specs.Sheet.{sheet_read}
use Rattle.sheets.specs.Text.{bytes_in}

-- a row: document 01's words, what a definition gives that the contracts cite, and what document 01 expects
pub record KnownResult : Type 0 where
  pub says : String
  pub given : List ℤ
  pub expected : List ℤ

-- the row of these three
abbrev pub known_case : String → List ℤ → List ℤ → KnownResult
known_case says given expected = record { says = says; given = given; expected = expected }

-- ---- what is expected

-- numbers without a sign
abbrev pub numbers : List ℕ → List ℤ
numbers l = map pos l

-- taken, with these values
abbrev pub taken_with : List ℕ → List ℤ
taken_with values = numbers (0 ∷ 0 ∷ values)

-- refused, with this number, at this place
abbrev pub refused_with : ℕ → ℕ → List ℤ
refused_with number place = numbers (number ∷ place ∷ [])

-- ---- what is given

-- an answer, and the values beside it
abbrev pub answer_numbers : Answer → List ℤ → List ℤ
answer_numbers a values = pos (number_of a) ∷ pos (place_of a) ∷ values

-- the values of what is given; none where it is refused
abbrev pub values_of : {A : Type 0} → (A → List ℤ) → Result A Refusal → List ℤ
values_of values (Ok x) = values x
values_of values (Err r) = []

-- the answer of what is given or refused, and the values beside it
abbrev pub given_numbers : {A : Type 0} → (A → List ℤ) → Result A Refusal → List ℤ
given_numbers values given = answer_numbers (answer_of given) (values_of values given)

-- writing a time's word over 52 bytes that are no bits (`words::time::write_time`): the symbols then
abbrev pub word_of : ℕ → List ℤ
word_of toi = answer_numbers (time_answer (replicate 52 255) toi) (numbers (time_bytes (replicate 52 255) toi))

-- a word with its first nine symbols turned
abbrev pub nine_turned : List ℕ → List ℕ
nine_turned word = sums word (replicate 9 1 ++ replicate 43 0)

-- the values of a time that was read: the time, and how many symbols differ
abbrev pub time_numbers : Time → List ℤ
time_numbers t = numbers (t.toi ∷ t.corrected ∷ [])

-- reading symbols as a time (`words::time::read_time`)
abbrev pub read_as_time : List ℕ → List ℤ
read_as_time symbols = given_numbers time_numbers (time_read symbols)

-- the data bits 1 to 576, zero but one
abbrev pub zero_but_bit : ℕ → List ℕ
zero_but_bit bit = slice_set (replicate BITS_2 0) (bit - 1) 1

-- the check bits as one number (`words::crc::check_bits`)
abbrev pub check_bits : List ℕ → List ℤ
check_bits bits = numbers (check_of bits ∷ [])

-- the value of a place
abbrev pub place_numbers : ℕ → List ℤ
place_numbers place = numbers (place ∷ [])

-- where the symbol at k leaves (`parity::order::place_in_order`)
abbrev pub leaves : ℕ → List ℤ
leaves k = given_numbers place_numbers (place_in_order k)

-- how many fields of subframe 2 stand before the one with this name: the list of a sheet has toi before them
abbrev pub fields_before : String → ℕ
fields_before name = position_in (bytes_in name) sheet_names - 1

-- the counts of subframe 2, zero but that of one field
abbrev pub zero_but_count : String → ℕ → List ℤ
zero_but_count name n = slice_set (replicate COUNTS_2 (pos 0)) (fields_before name) (pos n)

-- judging them (`fields::subframe2::judge_counts`)
abbrev pub judged_count : String → ℕ → List ℤ
judged_count name n = answer_numbers (counts_judged (zero_but_count name n)) []

-- the value of counts that were read: the count of one field
abbrev pub count_numbers : String → List ℤ → List ℤ
count_numbers name counts = slice_index_or counts (fields_before name) (pos 0) ∷ []

-- reading their bits (`fields::subframe2::read_fields`)
abbrev pub read_count : String → ℕ → List ℤ
read_count name n = given_numbers (count_numbers name) (fields_read (bits2 (zero_but_count name n)))

-- what a count of tgd says: not available, or this value
abbrev pub delay_numbers : Option ℤ → List ℤ
delay_numbers None = []
delay_numbers (Some z) = z ∷ []

-- asking a count of tgd (`fields::delay::delay_of`)
abbrev pub delay : ℤ → List ℤ
delay count = delay_numbers (delay_of count)

-- reading bytes as a sheet (`sheets::sheet::read_sheet`): its answer
abbrev pub sheet_in : List ℕ → List ℤ
sheet_in bytes = answer_numbers (answer_of (sheet_read bytes)) []
