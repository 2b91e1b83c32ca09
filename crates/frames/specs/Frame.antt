-- The frame (document 01, "The frame"; IS-GPS-800, 3.2.3): what it carries, when it is right, and the one frame of given contents.
-- Assumes nothing.
use Rattle.std.specs.Prelude.{◌≡◌, List, [], ◌∷◌, ◌++◌, ℕ, ◌-◌, ◌≤◌, ℤ, pos, length, take, drop}
use Rattle.words.specs.Bits.{IsBits}
use Rattle.words.specs.Crc.{block_of, Right}
use Rattle.words.specs.Time.{LAST_TOI, time_word, IsTime}
use Rattle.tables.specs.Matrix.{matrix_of}
use Rattle.tables.specs.declared.matrix.Subframe.{Subframe}
use Rattle.tables.specs.declared.matrix.Subframe.TheVariants.{Two, Three}
use Rattle.parity.specs.Equations.{data_of, Meets}
use Rattle.parity.specs.Fill.{with_parity}
use Rattle.parity.specs.Order.{interleaved, first_block, second_block}
use Rattle.fields.specs.Table.{fields_in}
use Rattle.fields.specs.Counts.{counts_in, AllInRange}
use Rattle.fields.specs.Subframe2.{fields2, bits2}
use Rattle.fields.specs.Pages.{PAGE_BITS, HEAD_BITS, number_in}
use Rattle.fields.specs.declared.table.Table.TheVariants.{Subframe2, Page1}

-- what a frame carries: the time, the counts of subframe 2's fields, and the page bits of subframe 3
pub record Contents : Type 0 where
  pub toi : ℕ
  pub counts : List ℤ
  pub page : List ℕ

-- contents in document 01's ranges: TOI is 0 to 399, each count is in its field's range, the page is 250 bits, and where its number is 1
-- the counts of page 1's fields are in theirs
pub record GoodContents (c : Contents) : Type 0 where
  pub time : c.toi ≤ LAST_TOI
  pub fields : AllInRange (fields_in Subframe2) c.counts
  pub long : length c.page ≡ PAGE_BITS
  pub bits : IsBits c.page
  pub page_1 : number_in c.page ≡ 1 → AllInRange (fields_in Page1) (counts_in (fields_in Page1) (drop HEAD_BITS c.page))

-- a frame is 1800 symbols (3.2.3)
abbrev pub FRAME : ℕ
FRAME = 1800

-- of which 52 are subframe 1 (3.2.3.2)
abbrev pub TIME_SYMBOLS : ℕ
TIME_SYMBOLS = 52

abbrev pub time_in : List ℕ → List ℕ
time_in f = take TIME_SYMBOLS f

-- and then 1748 interleaved symbols (3.2.3.5)
abbrev pub ordered_in : List ℕ → List ℕ
ordered_in f = drop TIME_SYMBOLS f

-- the symbols of a subframe, taken out of order (3.2.3.5)
abbrev pub subframe_in : Subframe → List ℕ → List ℕ
subframe_in Two f = first_block (ordered_in f)
subframe_in Three f = second_block (ordered_in f)

-- its data symbols: data and check bits (3.2.3.3)
abbrev pub data_in : Subframe → List ℕ → List ℕ
data_in s f = data_of (matrix_of s) (subframe_in s f)

-- how many of them stand before the 24 check bits: bits 1 to 576 of subframe 2, 1 to 250 of subframe 3 (3.2.3.3)
abbrev pub bits_before : Subframe → ℕ
bits_before s = (matrix_of s).equations - 24

-- those bits
abbrev pub bits_in : Subframe → List ℕ → List ℕ
bits_in s f = take (bits_before s) (subframe_in s f)

-- f carries c in subframes 2 and 3: the fields of subframe 2 stand for c's counts and its reserved bits are zero, the bits of subframe 3
-- are c's page, and in both subframes the check bits are right and every equation is met
pub record Carries (c : Contents) (f : List ℕ) : Type 0 where
  pub long : length f ≡ FRAME
  pub bits : IsBits f
  pub fields : counts_in fields2 (bits_in Two f) ≡ c.counts ++ pos 0 ∷ []
  pub page : bits_in Three f ≡ c.page
  pub checked : (s : Subframe) → Right (data_in s f)
  pub meets : (s : Subframe) → Meets (matrix_of s) (subframe_in s f)

-- f is a frame of c: its first 52 symbols are the word of c's time, and the others carry c
pub record IsFrame (c : Contents) (f : List ℕ) : Type 0 where
  pub time : time_in f ≡ time_word c.toi
  pub carries : Carries c f

-- f is to be read as c: everything is as in a frame of c, but that so many of the first 52 symbols, at most nine, differ
pub record ReadableAs (c : Contents) (places : ℕ) (f : List ℕ) : Type 0 where
  pub time : IsTime (time_in f) c.toi places
  pub carries : Carries c f

-- the symbols of a subframe with these bits: their check bits behind them, then the parity (3.2.3.3, 3.2.3.4)
unfoldable pub subframe_of : Subframe → List ℕ → List ℕ
subframe_of s bits = with_parity (matrix_of s) (block_of bits)

-- the bits of c in a subframe
abbrev pub bits_from : Subframe → Contents → List ℕ
bits_from Two c = bits2 c.counts
bits_from Three c = c.page

-- the frame of c (3.2.3)
unfoldable pub frame_of : Contents → List ℕ
frame_of c = time_word c.toi ++ interleaved (subframe_of Two (bits_from Two c) ++ subframe_of Three (bits_from Three c))
