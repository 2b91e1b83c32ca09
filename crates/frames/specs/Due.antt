-- When each refusal of reading and of building a frame is due (document 01, "Numbers given on refusal"), each number by its own rule, in document 01's order.
-- Assumes nothing.
use Rattle.std.specs.Prelude.{◌≡◌, List, ◌≢◌, ℕ, ◌%◌, ◌≤◌, ◌<◌, length, get_or, drop}
use Rattle.words.specs.Bits.{IsBits}
use Rattle.words.specs.Crc.{Right}
use Rattle.words.specs.Refusal.{LENGTH, NOT_A_BIT, TIME, FIELD_2, FIELD_3, number_of, place_of, Answer}
use Rattle.words.specs.Time.{LAST_TOI, IsTime}
use Rattle.tables.specs.Matrix.{Matrix, matrix_of}
use Rattle.tables.specs.declared.matrix.Subframe.{Subframe}
use Rattle.tables.specs.declared.matrix.Subframe.TheVariants.{Two, Three}
use Rattle.parity.specs.Equations.{equation_sum, Meets, equation_number}
use Rattle.fields.specs.Table.{fields_in}
use Rattle.fields.specs.Counts.{counts_in, AllInRange, FirstOutAt}
use Rattle.fields.specs.Subframe2.{COUNTS_2, fields2}
use Rattle.fields.specs.Pages.{PAGE_BITS, HEAD_BITS, number_in}
use Rattle.fields.specs.declared.table.Table.TheVariants.{Subframe2, Page1}
use Rattle.frames.specs.Frame.{Contents, FRAME, time_in, subframe_in, data_in, bits_in}
use Rattle.frames.specs.Read.{check_number}

-- an answer refuses with this number of the table, at this place
pub record RefusesWith (a : Answer) (n p : ℕ) : Type 0 where
  pub number_is : number_of a ≡ n
  pub place_is : place_of a ≡ p
  pub some : n ≢ 0

-- f is 1800 symbols, each a bit
pub record AreSymbols (f : List ℕ) : Type 0 where
  pub long : length f ≡ FRAME
  pub bits : IsBits f

-- p is the index of the first byte that is neither 0 nor 1
pub record FirstByteAt (f : List ℕ) (p : ℕ) : Type 0 where
  pub inside : p < length f
  pub no_bit : 2 ≤ get_or f p 0
  pub before : (k : ℕ) → k < p → get_or f k 0 < 2

-- 1 and 2, over the frame
pub data LentDue (f : List ℕ) : ℕ → ℕ → Type 0 where
  length_due : length f ≢ FRAME → LentDue f LENGTH 0
  byte_due : (p : ℕ) → length f ≡ FRAME → FirstByteAt f p → LentDue f NOT_A_BIT p

-- no TOI from 0 to 399 has its word within nine of the first 52 symbols
abbrev pub NoTime : List ℕ → Type 0
NoTime f = (toi places : ℕ) → IsTime (time_in f) toi places → ⊥

-- some TOI has
pub record HasTime (f : List ℕ) : Type 0 where
  pub toi : ℕ
  pub places : ℕ
  pub within : IsTime (time_in f) toi places

-- p is the number, from 1, of the first equation that isn't met
pub record FirstUnmetAt (M : Matrix) (x : List ℕ) (p : ℕ) : Type 0 where
  pub first : 1 ≤ p
  pub last : p ≤ M.equations
  pub unmet : equation_sum M x p % 2 ≢ 0
  pub before : (r : ℕ) → 1 ≤ r → r < p → equation_sum M x r % 2 ≡ 0

-- the number for a field out of range: 6 for subframe 2, 9 for subframe 3
abbrev pub field_number : Subframe → ℕ
field_number Two = FIELD_2
field_number Three = FIELD_3

-- p is the first bit of the first field out of range, of subframe 2 with the reserved bits last; of page 1, and only where the page number
-- is 1
pub data FieldOutAt : Subframe → List ℕ → ℕ → Type 0 where
  out_2 : (bits : List ℕ) (p : ℕ) → FirstOutAt 0 fields2 (counts_in fields2 bits) p → FieldOutAt Two bits p
  out_3 : (bits : List ℕ) (p : ℕ) → number_in bits ≡ 1
      → FirstOutAt HEAD_BITS (fields_in Page1) (counts_in (fields_in Page1) (drop HEAD_BITS bits)) p → FieldOutAt Three bits p

-- 4 5 6 or 7 8 9: an equation isn't met; all are met, and the check bits differ; those are right, and a field is out of range
pub data SubframeDue (s : Subframe) (f : List ℕ) : ℕ → ℕ → Type 0 where
  equation_due : (p : ℕ) → FirstUnmetAt (matrix_of s) (subframe_in s f) p → SubframeDue s f (equation_number s) p
  check_due : Meets (matrix_of s) (subframe_in s f) → (Right (data_in s f) → ⊥) → SubframeDue s f (check_number s) 0
  field_due : (p : ℕ) → Meets (matrix_of s) (subframe_in s f) → Right (data_in s f) → FieldOutAt s (bits_in s f) p
      → SubframeDue s f (field_number s) p

-- nothing of it is due
pub record SubframeGood (s : Subframe) (f : List ℕ) : Type 0 where
  pub meets : Meets (matrix_of s) (subframe_in s f)
  pub right : Right (data_in s f)
  pub within_range : (p : ℕ) → FieldOutAt s (bits_in s f) p → ⊥

-- in a frame: 1, 2, then 3, then 4 5 6, then 7 8 9
pub data FrameDue (f : List ℕ) : ℕ → ℕ → Type 0 where
  lent : (n p : ℕ) → LentDue f n p → FrameDue f n p
  time : AreSymbols f → NoTime f → FrameDue f TIME 0
  two : (n p : ℕ) → AreSymbols f → HasTime f → SubframeDue Two f n p → FrameDue f n p
  three : (n p : ℕ) → AreSymbols f → HasTime f → SubframeGood Two f → SubframeDue Three f n p → FrameDue f n p

-- of the time alone: 1, 2 over the frame, then only 3
pub data TimeDue (f : List ℕ) : ℕ → ℕ → Type 0 where
  lent : (n p : ℕ) → LentDue f n p → TimeDue f n p
  time : AreSymbols f → NoTime f → TimeDue f TIME 0

-- of a subframe alone: 1, 2 over the frame, then only 4 5 6 or only 7 8 9
pub data AloneDue (s : Subframe) (f : List ℕ) : ℕ → ℕ → Type 0 where
  lent : (n p : ℕ) → LentDue f n p → AloneDue s f n p
  own : (n p : ℕ) → AreSymbols f → SubframeDue s f n p → AloneDue s f n p

-- ---- building

-- the counts are 33, the page is 250 and the lent frame 1800
pub record RightSizes (c : Contents) (out : List ℕ) : Type 0 where
  pub counts : length c.counts ≡ COUNTS_2
  pub page : length c.page ≡ PAGE_BITS
  pub frame : length out ≡ FRAME

-- and the page is bits
pub record AreLent (c : Contents) (out : List ℕ) : Type 0 where
  pub sizes : RightSizes c out
  pub bits : IsBits c.page

-- in building: 1, 2 (page bits), 3, 6, 9
pub data BuildDue (c : Contents) (out : List ℕ) : ℕ → ℕ → Type 0 where
  size_due : (RightSizes c out → ⊥) → BuildDue c out LENGTH 0
  page_byte_due : (p : ℕ) → RightSizes c out → FirstByteAt c.page p → BuildDue c out NOT_A_BIT p
  toi_due : AreLent c out → LAST_TOI < c.toi → BuildDue c out TIME 0
  count_due : (p : ℕ) → AreLent c out → c.toi ≤ LAST_TOI → FirstOutAt 0 (fields_in Subframe2) c.counts p → BuildDue c out FIELD_2 p
  page_field_due : (p : ℕ) → AreLent c out → c.toi ≤ LAST_TOI → AllInRange (fields_in Subframe2) c.counts → FieldOutAt Three c.page p
      → BuildDue c out FIELD_3 p
