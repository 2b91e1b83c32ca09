-- The symbols of a subframe, in a frame and taken out of it.
-- Assumes nothing.
use Rattle.std.specs.Prelude.{◌≡◌, refl, List, ◌++◌, ℕ, ◌+◌, length, take, drop}
use Rattle.std.proofs.Math.Path.{sym, ap, ap₂}
use Rattle.std.proofs.Common.{◌∙◌, arith, length-drop, take-append-drop, take-take, length-take-le}
use Rattle.std.proofs.Math.ListN.{length-append}
use Rattle.std.proofs.Math.Seq.{take_at, drop_at}
use Rattle.words.specs.Bits.{IsBits, bits_of}
use Rattle.words.specs.Checked.{block_right, right_only}
use Rattle.words.specs.Crc.{check_of, block_of, Right}
use Rattle.words.specs.Time.{time_word}
use Rattle.words.specs.Laws.Digits.{length_bits, bits_are, bits_append, bits_take, bits_drop}
use Rattle.words.specs.Laws.Words.{word_length, word_are}
use Rattle.tables.specs.Matrix.{matrix_of}
use Rattle.tables.specs.Published.{proper}
use Rattle.tables.specs.declared.matrix.Subframe.{Subframe}
use Rattle.tables.specs.declared.matrix.Subframe.TheVariants.{Two, Three}
use Rattle.parity.specs.Equations.{data_of, Meets}
use Rattle.parity.specs.ExactlyOne.{filled_meets, only_filled}
use Rattle.parity.specs.Fill.{with_parity, IsCodeword}
use Rattle.parity.specs.InOrder.{interleaved_length, interleaved_bits, interleaved_back, deinterleaved_back}
use Rattle.parity.specs.Order.{SYMBOLS_2, SYMBOLS, interleaved, first_block, second_block}
use Rattle.parity.specs.Laws.Order.{blocks_fit, blocks_are, blocks_joined}
use Rattle.frames.specs.Frame.{Contents, FRAME, TIME_SYMBOLS, time_in, ordered_in, subframe_in, data_in, bits_before, bits_in, subframe_of, bits_from, frame_of}

-- ---- what is taken out of a frame

pub check_fits : (s : Subframe) → bits_before s + 24 ≡ (matrix_of s).equations
check_fits Two = refl
check_fits Three = refl

pub subframe_length : (s : Subframe) (f : List ℕ) → length (subframe_in s f) ≡ (matrix_of s).equations + (matrix_of s).equations
subframe_length Two f = (blocks_fit (ordered_in f) (interleaved f) (interleaved_length f)).two
subframe_length Three f = (blocks_fit (ordered_in f) (interleaved f) (interleaved_length f)).three

pub subframe_bits : (s : Subframe) (f : List ℕ) → IsBits f → IsBits (subframe_in s f)
subframe_bits Two f h = (blocks_are (ordered_in f) (bits_drop TIME_SYMBOLS f h)).0
subframe_bits Three f h = (blocks_are (ordered_in f) (bits_drop TIME_SYMBOLS f h)).1

pub data_length : (s : Subframe) (f : List ℕ) → length (data_in s f) ≡ (matrix_of s).equations
data_length s f = length-take-le (matrix_of s).equations (subframe_in s f) (omega (arith, subframe_length s f))

pub bits_length : (s : Subframe) (f : List ℕ) → length (bits_in s f) ≡ bits_before s
bits_length s f = length-take-le (bits_before s) (subframe_in s f) (omega (arith, subframe_length s f, check_fits s))

-- the bits before the check bits are the first of the data symbols
pub bits_in_data : (s : Subframe) (y : List ℕ) → take (bits_before s) (data_of (matrix_of s) y) ≡ take (bits_before s) y
bits_in_data s y = take-take (bits_before s) (matrix_of s).equations y (omega (arith, check_fits s))

-- ---- a subframe's bits with their check bits and parity

module _ (s : Subframe) (bits : List ℕ) (long : length bits ≡ bits_before s) (are : IsBits bits) where
  block_length : length (block_of bits) ≡ (matrix_of s).equations
  unfolding block_of
  block_length =
      length-append bits (bits_of 24 (check_of bits))
      ∙ ap₂ (λ (m n : ℕ). m + n) long (length_bits 24 (check_of bits)) ∙ check_fits s

  pub block_are : IsBits (block_of bits)
  unfolding block_of
  block_are = bits_append bits (bits_of 24 (check_of bits)) are (bits_are 24 (check_of bits))

  -- a block that meets every equation, with the bits and their check bits in front
  pub made_block : IsCodeword (matrix_of s) (block_of bits) (subframe_of s bits)
  unfolding subframe_of
  made_block = filled_meets (matrix_of s) (proper s) (block_of bits) block_are block_length

  pub made_right : Right (data_of (matrix_of s) (subframe_of s bits))
  made_right = rw made_block.starts (block_right bits)

  pub made_bits : take (bits_before s) (subframe_of s bits) ≡ bits
  unfolding block_of
  made_bits =
      sym (bits_in_data s (subframe_of s bits))
      ∙ ap (take (bits_before s)) made_block.starts ∙ take_at bits (bits_of 24 (check_of bits)) (bits_before s) long

-- right data symbols are the bits before the check bits with their check bits
right_block : (s : Subframe) (d : List ℕ) → length d ≡ (matrix_of s).equations → IsBits d → Right d → d ≡ block_of (take (bits_before s) d)
unfolding block_of
right_block s d long are right =
    let before = take (bits_before s) d in
    let after = drop (bits_before s) d in
    let whole : before ++ after ≡ d = take-append-drop (bits_before s) d in
    let count : length after ≡ 24 = length-drop (bits_before s) d ∙ omega (arith, check_fits s) in
    sym whole
    ∙ ap (λ (l : List ℕ). before ++ l)
    (right_only before after count (bits_drop (bits_before s) d are) (rw whole right))

-- so a subframe that is right in both is made from its bits, and from nothing else
pub only_made : (s : Subframe) (y : List ℕ) → length y ≡ (matrix_of s).equations + (matrix_of s).equations → IsBits y
    → Right (data_of (matrix_of s) y) → Meets (matrix_of s) y → y ≡ subframe_of s (take (bits_before s) y)
unfolding subframe_of
only_made s y long are right met =
    let d = data_of (matrix_of s) y in
    let count : length d ≡ (matrix_of s).equations = length-take-le (matrix_of s).equations y (omega arith) in
    let bits = bits_take (matrix_of s).equations y are in
    only_filled (matrix_of s) (proper s) d y bits count (record { long = long; bits = are; starts = refl; meets = met })
    ∙ ap (with_parity (matrix_of s)) (right_block s d count bits right ∙ ap block_of (bits_in_data s y))

-- ---- the frame of contents

-- the symbols of both subframes one after another
abbrev pub both_of : List ℕ → List ℕ → List ℕ
both_of b2 b3 = subframe_of Two b2 ++ subframe_of Three b3

module _ (b2 b3 : List ℕ) (l2 : length b2 ≡ bits_before Two) (l3 : length b3 ≡ bits_before Three) (are2 : IsBits b2) (are3 : IsBits b3) where
  both_length : length (both_of b2 b3) ≡ SYMBOLS
  both_length =
      length-append (subframe_of Two b2) (subframe_of Three b3)
      ∙ ap₂ (λ (m n : ℕ). m + n) (made_block Two b2 l2 are2).long (made_block Three b3 l3 are3).long

  pub both_bits : IsBits (both_of b2 b3)
  both_bits = bits_append (subframe_of Two b2) (subframe_of Three b3) (made_block Two b2 l2 are2).bits (made_block Three b3 l3 are3).bits

  pub first_back : first_block (interleaved (both_of b2 b3)) ≡ subframe_of Two b2
  unfolding first_block
  first_back =
      ap (take SYMBOLS_2) (interleaved_back (both_of b2 b3) both_length)
      ∙ take_at (subframe_of Two b2) (subframe_of Three b3) SYMBOLS_2 (made_block Two b2 l2 are2).long

  pub second_back : second_block (interleaved (both_of b2 b3)) ≡ subframe_of Three b3
  unfolding second_block
  second_back =
      ap (drop SYMBOLS_2) (interleaved_back (both_of b2 b3) both_length)
      ∙ drop_at (subframe_of Two b2) (subframe_of Three b3) SYMBOLS_2 (made_block Two b2 l2 are2).long

-- the time word stands in front, and the ordered symbols behind it
pub time_of : (c : Contents) → time_in (frame_of c) ≡ time_word c.toi
unfolding frame_of
time_of c = take_at (time_word c.toi) (interleaved (both_of (bits_from Two c) (bits_from Three c))) TIME_SYMBOLS (word_length c.toi)

pub ordered_of : (c : Contents) → ordered_in (frame_of c) ≡ interleaved (both_of (bits_from Two c) (bits_from Three c))
unfolding frame_of
ordered_of c = drop_at (time_word c.toi) (interleaved (both_of (bits_from Two c) (bits_from Three c))) TIME_SYMBOLS (word_length c.toi)

pub frame_length : (c : Contents) → length (frame_of c) ≡ FRAME
unfolding frame_of
frame_length c =
    length-append (time_word c.toi) (interleaved (both_of (bits_from Two c) (bits_from Three c)))
    ∙ ap₂ (λ (m n : ℕ). m + n) (word_length c.toi) (interleaved_length (both_of (bits_from Two c) (bits_from Three c)))

-- contents whose bits are as many as a subframe has
pub record HaveBits (c : Contents) : Type 0 where
  pub many : (s : Subframe) → length (bits_from s c) ≡ bits_before s
  pub are : (s : Subframe) → IsBits (bits_from s c)

module _ (c : Contents) (h : HaveBits c) where
  pub frame_bits : IsBits (frame_of c)
  unfolding frame_of
  frame_bits =
      bits_append (time_word c.toi) (interleaved (both_of (bits_from Two c) (bits_from Three c))) (word_are c.toi)
      (interleaved_bits (both_of (bits_from Two c) (bits_from Three c))
      (both_bits (bits_from Two c) (bits_from Three c) (h.many Two) (h.many Three) (h.are Two) (h.are Three)))

  -- each subframe of the frame is made from its bits
  pub subframe_of_frame : (s : Subframe) → subframe_in s (frame_of c) ≡ subframe_of s (bits_from s c)
  subframe_of_frame Two =
      ap first_block (ordered_of c) ∙ first_back (bits_from Two c) (bits_from Three c) (h.many Two) (h.many Three) (h.are Two) (h.are Three)
  subframe_of_frame Three =
      ap second_block (ordered_of c) ∙ second_back (bits_from Two c) (bits_from Three c) (h.many Two) (h.many Three) (h.are Two) (h.are Three)

  pub bits_of_frame : (s : Subframe) → bits_in s (frame_of c) ≡ bits_from s c
  bits_of_frame s = ap (take (bits_before s)) (subframe_of_frame s) ∙ made_bits s (bits_from s c) (h.many s) (h.are s)

-- a frame's ordered symbols are those of its two subframes
pub ordered_in_lem : (f : List ℕ) → length f ≡ FRAME → ordered_in f ≡ interleaved (subframe_in Two f ++ subframe_in Three f)
ordered_in_lem f long =
    sym (deinterleaved_back (ordered_in f) (length-drop TIME_SYMBOLS f ∙ omega arith)) ∙ ap interleaved (sym (blocks_joined (ordered_in f)))
