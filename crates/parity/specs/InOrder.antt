-- THEOREMS: the order of symbols is a permutation with its inverse; it keeps every symbol, bits and sums; what is interleaved and
-- taken apart is as it was; a refusal leaves every lent byte as it was.
-- Assumes nothing.
use Rattle.std.specs.Prelude.{◌≡◌, refl, Ok, List, ◌++◌, ℕ, ◌+◌, ◌*◌, ◌≤◌, ◌<◌, length, get_or, take, drop}
use Rattle.std.proofs.Common.{ap, ap₂, ◌∙◌, arith, length-append, take_at, drop_at, ne_eqb, le-ltb}
use Rattle.words.specs.Bits.{IsBits, first_not_bit}
use Rattle.words.specs.Refusal.{LENGTH, NOT_A_BIT, refused_at, Done}
use Rattle.words.specs.Sums.{sums}
use Rattle.words.specs.Unchanged.{Refuses, refused_stay}
use Rattle.words.specs.Laws.Digits.{bits_append, bits_none}
use Rattle.parity.specs.Order.{SYMBOLS_2, SYMBOLS_3, SYMBOLS, ROWS, COLUMNS, leaves_at, stood_at, interleaved, deinterleaved, first_block, second_block, place_in_order, place_before, right_lengths, HaveLengths, all_bits, interleave_answer, interleave_bytes, deinterleave_answer, deinterleave_block2, deinterleave_block3}
use Rattle.parity.specs.Laws.Order.{length_symbols, symbols_whole, symbols_are, symbols_sums, places_back, asked_back, blocks_fit, blocks_are, blocks_joined, lengths_fit, lengths_wrong, done_answer, done_leaves, not_bit_behind}

-- ---- places

-- Document 01's sentence: the symbol at 46r + c, in row r and column c, leaves at 38c + r.
pub leaves_by_columns : (r c : ℕ) → r < ROWS → c < COLUMNS → leaves_at (COLUMNS * r + c) ≡ ROWS * c + r
leaves_by_columns r c h g = omega arith

-- Both blocks fill the rows.
pub rows_filled : (SYMBOLS_2 + SYMBOLS_3 ≡ SYMBOLS) × (ROWS * COLUMNS ≡ SYMBOLS)
rows_filled = (refl, refl)

-- Each of the symbols leaves at a place among theirs, and stood at one.
pub leaves_inside : (k : ℕ) → k < SYMBOLS → leaves_at k < SYMBOLS
leaves_inside k h = omega arith

pub stood_inside : (i : ℕ) → i < SYMBOLS → stood_at i < SYMBOLS
stood_inside i h = omega arith

-- The two places lead back to each other, so that no two symbols leave at one place.
pub stood_leaves : (k : ℕ) → k < SYMBOLS → stood_at (leaves_at k) ≡ k
stood_leaves k h = omega arith

pub leaves_stood : (i : ℕ) → i < SYMBOLS → leaves_at (stood_at i) ≡ i
leaves_stood i h = omega arith

-- ---- lists of symbols

-- As many symbols leave as there are, whatever is lent, and as many come back.
pub interleaved_length : (l : List ℕ) → length (interleaved l) ≡ SYMBOLS
unfolding interleaved
interleaved_length l = length_symbols stood_at l 0 SYMBOLS

pub deinterleaved_length : (s : List ℕ) → length (deinterleaved s) ≡ SYMBOLS
unfolding deinterleaved
deinterleaved_length s = length_symbols leaves_at s 0 SYMBOLS

-- What leaves at i is the symbol that stood there, and what stood at k is found where it left.
pub interleaved_at : (l : List ℕ) (i : ℕ) → i < SYMBOLS → get_or (interleaved l) i 0 ≡ get_or l (stood_at i) 0
unfolding interleaved
interleaved_at l i h = symbols_whole stood_at l i h

pub deinterleaved_at : (s : List ℕ) (k : ℕ) → k < SYMBOLS → get_or (deinterleaved s) k 0 ≡ get_or s (leaves_at k) 0
unfolding deinterleaved
deinterleaved_at s k h = symbols_whole leaves_at s k h

-- So the symbol at k leaves at its place.
pub symbol_leaves : (l : List ℕ) (k : ℕ) → k < SYMBOLS → get_or (interleaved l) (leaves_at k) 0 ≡ get_or l k 0
symbol_leaves l k h =
    interleaved_at l (leaves_at k) (leaves_inside k h) ∙ ap (λ (j : ℕ). get_or l j 0) (stood_leaves k h)

-- Interleaved and taken back, the symbols are as they were.
pub interleaved_back : (l : List ℕ) → length l ≡ SYMBOLS → deinterleaved (interleaved l) ≡ l
unfolding interleaved deinterleaved
interleaved_back l e = places_back stood_at leaves_at leaves_inside stood_leaves l e

-- Taken back and interleaved again, they are as they were.
pub deinterleaved_back : (s : List ℕ) → length s ≡ SYMBOLS → interleaved (deinterleaved s) ≡ s
unfolding interleaved deinterleaved
deinterleaved_back s e = places_back leaves_at stood_at stood_inside leaves_stood s e

-- Bits stay bits.
pub interleaved_bits : (l : List ℕ) → IsBits l → IsBits (interleaved l)
unfolding interleaved
interleaved_bits l h = symbols_are stood_at l h 0 SYMBOLS

pub deinterleaved_bits : (s : List ℕ) → IsBits s → IsBits (deinterleaved s)
unfolding deinterleaved
deinterleaved_bits s h = symbols_are leaves_at s h 0 SYMBOLS

-- Interleaving adds up: the sum modulo 2 of two lists of one length, interleaved, is the sum of the two interleaved; and back.
pub interleaved_linear : (a b : List ℕ) → length a ≡ length b → interleaved (sums a b) ≡ sums (interleaved a) (interleaved b)
unfolding interleaved
interleaved_linear a b e = symbols_sums stood_at a b e 0 SYMBOLS

pub deinterleaved_linear : (a b : List ℕ) → length a ≡ length b
    → deinterleaved (sums a b) ≡ sums (deinterleaved a) (deinterleaved b)
unfolding deinterleaved
deinterleaved_linear a b e = symbols_sums leaves_at a b e 0 SYMBOLS

-- ---- the functions

-- Asked where a symbol leaves, and then where that one stood, the functions lead back; and the other way round.
pub place_back : (k : ℕ) → k < SYMBOLS → (i : ℕ) × (place_in_order k ≡ Ok i) × (place_before i ≡ Ok k)
place_back k h = let asked = asked_back stood_at leaves_at k h (leaves_inside k h) (stood_leaves k h) in (leaves_at k, asked.0, asked.1)

pub place_again : (i : ℕ) → i < SYMBOLS → (k : ℕ) × (place_before i ≡ Ok k) × (place_in_order k ≡ Ok i)
place_again i h = let asked = asked_back leaves_at stood_at i h (stood_inside i h) (leaves_stood i h) in (stood_at i, asked.0, asked.1)

-- Past the last symbol there is no place: both are refused 1 at 0, and give nothing else.
pub no_place_past : (k : ℕ) → SYMBOLS ≤ k → (place_in_order k ≡ refused_at LENGTH 0) × (place_before k ≡ refused_at LENGTH 0)
no_place_past k h = (rw (le-ltb k SYMBOLS h) refl, rw (le-ltb k SYMBOLS h) refl)

-- A byte of the second block that is no bit is counted from the first block's start: the second block's first byte is 1200.
pub block3_counted : (b2 b3 : List ℕ) → length b2 ≡ SYMBOLS_2 → IsBits b2 → first_not_bit (b2 ++ b3) ≡ SYMBOLS_2 + first_not_bit b3
block3_counted b2 b3 e bits = not_bit_behind b2 b3 (bits_none b2 bits) ∙ ap (λ (n : ℕ). n + first_not_bit b3) e

-- Two blocks of bits are interleaved, and symbols that are bits are taken apart, where the lengths are right.
pub interleave_done : (b2 b3 s : List ℕ) → HaveLengths b2 b3 s → IsBits b2 → IsBits b3
    → (interleave_answer b2 b3 s ≡ Done) × (interleave_bytes b2 b3 s ≡ interleaved (b2 ++ b3))
interleave_done b2 b3 s h bits2 bits3 =
    let lengths = right_lengths (length b2) (length b3) (length s) in
    let first_not = first_not_bit (b2 ++ b3) in
    let none : first_not ≡ SYMBOLS =
    block3_counted b2 b3 h.two bits2 ∙ ap (λ (n : ℕ). SYMBOLS_2 + n) (bits_none b3 bits3 ∙ h.three) in (
      done_answer lengths first_not (lengths_fit b2 b3 s h) none,
      done_leaves lengths first_not (interleaved (b2 ++ b3)) s (lengths_fit b2 b3 s h) none,
    )

pub deinterleave_done : (s b2 b3 : List ℕ) → HaveLengths b2 b3 s → IsBits s
    → (deinterleave_answer s b2 b3 ≡ Done) × (deinterleave_block2 s b2 b3 ≡ first_block s) × (deinterleave_block3 s b2 b3 ≡ second_block s)
deinterleave_done s b2 b3 h bits =
    let lengths = right_lengths (length b2) (length b3) (length s) in
    let none : first_not_bit s ≡ SYMBOLS = bits_none s bits ∙ h.both in (
      done_answer lengths (first_not_bit s) (lengths_fit b2 b3 s h) none,
      done_leaves lengths (first_not_bit s) (first_block s) b2 (lengths_fit b2 b3 s h) none,
      done_leaves lengths (first_not_bit s) (second_block s) b3 (lengths_fit b2 b3 s h) none,
    )

-- Two blocks of bits, interleaved and then taken apart into any two blocks, come back, and nothing is refused.
pub blocks_back : (b2 b3 s old2 old3 : List ℕ) → HaveLengths b2 b3 s → HaveLengths old2 old3 s → IsBits b2 → IsBits b3
    → (deinterleave_answer (interleave_bytes b2 b3 s) old2 old3 ≡ Done)
    × (deinterleave_block2 (interleave_bytes b2 b3 s) old2 old3 ≡ b2)
    × (deinterleave_block3 (interleave_bytes b2 b3 s) old2 old3 ≡ b3)
unfolding first_block second_block
blocks_back b2 b3 s old2 old3 h g bits2 bits3 =
    let l = b2 ++ b3 in
    let out = (interleave_done b2 b3 s h bits2 bits3).1 in
    let whole : length l ≡ SYMBOLS = length-append b2 b3 ∙ ap₂ (λ (m n : ℕ). m + n) h.two h.three in
    let done =
    deinterleave_done (interleaved l) old2 old3 (record { two = g.two; three = g.three; both = interleaved_length l })
    (interleaved_bits l (bits_append b2 b3 bits2 bits3)) in (
      ap (λ (x : List ℕ). deinterleave_answer x old2 old3) out ∙ done.0,
      ap (λ (x : List ℕ). deinterleave_block2 x old2 old3) out
          ∙ done.1 ∙ ap (take SYMBOLS_2) (interleaved_back l whole) ∙ take_at b2 b3 SYMBOLS_2 h.two,
      ap (λ (x : List ℕ). deinterleave_block3 x old2 old3) out
          ∙ done.2 ∙ ap (drop SYMBOLS_2) (interleaved_back l whole) ∙ drop_at b2 b3 SYMBOLS_2 h.two,
    )

-- Symbols that are bits, taken apart and then interleaved into any symbols, come back, and nothing is refused.
pub symbols_back : (s b2 b3 old : List ℕ) → HaveLengths b2 b3 s → length old ≡ SYMBOLS → IsBits s
    → (interleave_answer (deinterleave_block2 s b2 b3) (deinterleave_block3 s b2 b3) old ≡ Done)
    × (interleave_bytes (deinterleave_block2 s b2 b3) (deinterleave_block3 s b2 b3) old ≡ s)
symbols_back s b2 b3 old h e bits =
    let taken = deinterleave_done s b2 b3 h bits in
    let are = blocks_are s bits in
    let done = interleave_done (first_block s) (second_block s) old (blocks_fit s old e) are.0 are.1 in (
      ap₂ (λ (x y : List ℕ). interleave_answer x y old) taken.1 taken.2 ∙ done.0,
      ap₂ (λ (x y : List ℕ). interleave_bytes x y old) taken.1 taken.2
          ∙ done.1 ∙ ap interleaved (blocks_joined s) ∙ deinterleaved_back s h.both,
    )

-- Unless the lengths are right, both ways are refused 1 at 0.
pub interleave_refused_length : (b2 b3 s : List ℕ) → (HaveLengths b2 b3 s → ⊥) → interleave_answer b2 b3 s ≡ refused_at LENGTH 0
interleave_refused_length b2 b3 s h = rw (lengths_wrong b2 b3 s h)

pub deinterleave_refused_length : (s b2 b3 : List ℕ) → (HaveLengths b2 b3 s → ⊥) → deinterleave_answer s b2 b3 ≡ refused_at LENGTH 0
deinterleave_refused_length s b2 b3 h = rw (lengths_wrong b2 b3 s h)

-- Then, with a byte that is neither 0 nor 1, 2 at the first.
pub interleave_refused_byte : (b2 b3 s : List ℕ) → HaveLengths b2 b3 s → (first_not_bit (b2 ++ b3) ≡ SYMBOLS → ⊥)
    → interleave_answer b2 b3 s ≡ refused_at NOT_A_BIT (first_not_bit (b2 ++ b3))
interleave_refused_byte b2 b3 s h some = rw (lengths_fit b2 b3 s h, ne_eqb (first_not_bit (b2 ++ b3)) SYMBOLS some)

pub deinterleave_refused_byte : (s b2 b3 : List ℕ) → HaveLengths b2 b3 s → (first_not_bit s ≡ SYMBOLS → ⊥)
    → deinterleave_answer s b2 b3 ≡ refused_at NOT_A_BIT (first_not_bit s)
deinterleave_refused_byte s b2 b3 h some = rw (lengths_fit b2 b3 s h, ne_eqb (first_not_bit s) SYMBOLS some)

-- Where interleaving is refused, the symbols are as they were.
pub interleave_unchanged : (b2 b3 s : List ℕ) → Refuses (interleave_answer b2 b3 s) → interleave_bytes b2 b3 s ≡ s
interleave_unchanged b2 b3 s h =
    refused_stay (right_lengths (length b2) (length b3) (length s)) (all_bits (first_not_bit (b2 ++ b3))) (first_not_bit (b2 ++ b3)) (interleaved (b2 ++ b3)) s h

-- Where taking apart is refused, both blocks are as they were.
pub deinterleave_unchanged : (s b2 b3 : List ℕ) → Refuses (deinterleave_answer s b2 b3)
    → (deinterleave_block2 s b2 b3 ≡ b2) × (deinterleave_block3 s b2 b3 ≡ b3)
deinterleave_unchanged s b2 b3 h =
    let lengths = right_lengths (length b2) (length b3) (length s) in
    let bits = all_bits (first_not_bit s) in
    (refused_stay lengths bits (first_not_bit s) (first_block s) b2 h, refused_stay lengths bits (first_not_bit s) (second_block s) b3 h)
