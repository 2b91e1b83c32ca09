-- The order of symbols (document 01, "Order"; IS-GPS-800, 3.2.3.5).
-- Assumes nothing.
use Rattle.std.specs.Prelude.{◌≡◌, Result, Ok, Bool, cond, ◌&&◌, List, [], ◌∷◌, ◌++◌, ℕ, zero, suc, ◌+◌, ◌*◌, ◌/◌, ◌%◌, ltb, eqb, length, get_or, take, drop}
use Rattle.words.specs.Bits.{first_not_bit}
use Rattle.words.specs.Refusal.{Answer, Done, LENGTH, NOT_A_BIT, refused_at, done_if, left_if, judged}
use Rattle.words.specs.declared.refusal.Refusal.{Refusal}

-- the symbols of subframe 2 (3.2.3.5)
abbrev pub SYMBOLS_2 : ℕ
SYMBOLS_2 = 1200

-- then those of subframe 3 (3.2.3.5)
abbrev pub SYMBOLS_3 : ℕ
SYMBOLS_3 = 548

-- both (3.2.3.5)
abbrev pub SYMBOLS : ℕ
SYMBOLS = 1748

-- they fill 38 rows (3.2.3.5)
abbrev pub ROWS : ℕ
ROWS = 38

-- of 46 (3.2.3.5)
abbrev pub COLUMNS : ℕ
COLUMNS = 46

-- row by row they fill, and by columns they leave: the symbol at 46r + c leaves at 38c + r (3.2.3.5)
abbrev pub leaves_at : ℕ → ℕ
leaves_at k = ROWS * (k % COLUMNS) + k / COLUMNS

-- back: the symbol that leaves at 38c + r stood at 46r + c (3.2.3.5)
abbrev pub stood_at : ℕ → ℕ
stood_at i = COLUMNS * (i % ROWS) + i / ROWS

-- n symbols of l: those at `place from`, `place (from + 1)` and so on
unfoldable pub symbols_at : (ℕ → ℕ) → List ℕ → ℕ → ℕ → List ℕ
symbols_at place l from zero = []
symbols_at place l from (suc n) = get_or l (place from) 0 ∷ symbols_at place l (suc from) n

-- the symbols as they leave (3.2.3.5)
unfoldable pub interleaved : List ℕ → List ℕ
interleaved l = symbols_at stood_at l 0 SYMBOLS

-- the symbols as they stood, from those that left (3.2.3.5)
unfoldable pub deinterleaved : List ℕ → List ℕ
deinterleaved s = symbols_at leaves_at s 0 SYMBOLS

-- of those, the symbols of subframe 2
unfoldable pub first_block : List ℕ → List ℕ
first_block s = take SYMBOLS_2 (deinterleaved s)

-- and the rest, those of subframe 3
unfoldable pub second_block : List ℕ → List ℕ
second_block s = drop SYMBOLS_2 (deinterleaved s)

-- what asking for a place gives: that place for each of the symbols, and past the last of them a refusal, 1 at 0
abbrev pub place_by : (ℕ → ℕ) → ℕ → Result ℕ Refusal
place_by place index = cond (ltb index SYMBOLS) (Ok (place index)) (refused_at LENGTH 0)

-- where the symbol at k leaves
abbrev pub place_in_order : ℕ → Result ℕ Refusal
place_in_order k = place_by leaves_at k

-- where the symbol stood that leaves at i
abbrev pub place_before : ℕ → Result ℕ Refusal
place_before i = place_by stood_at i

-- the lengths of both blocks and of the symbols are right
abbrev pub right_lengths : ℕ → ℕ → ℕ → Bool
right_lengths count2 count3 count = eqb count2 SYMBOLS_2 && (eqb count3 SYMBOLS_3 && eqb count SYMBOLS)

-- the same of two blocks and the symbols of both, as a fact
pub record HaveLengths (b2 b3 s : List ℕ) : Type 0 where
  pub two : length b2 ≡ SYMBOLS_2
  pub three : length b3 ≡ SYMBOLS_3
  pub both : length s ≡ SYMBOLS

-- every one of the symbols is a bit: the first byte that is none is past the last one
abbrev pub all_bits : ℕ → Bool
all_bits first_not = eqb first_not SYMBOLS

-- of symbols whose first byte that is no bit has this index: done, or refused 2 there
abbrev pub bits_answer : ℕ → Answer
bits_answer first_not = done_if (all_bits first_not) NOT_A_BIT first_not

-- both ways: 1 unless the lengths are right, then 2 at the first byte that is no bit
abbrev pub order_answer : Bool → ℕ → Answer
order_answer lengths first_not = judged lengths (all_bits first_not) first_not Done

-- what is then left in lent bytes; on a refusal they stay
abbrev pub order_leaves : Bool → ℕ → List ℕ → List ℕ → List ℕ
order_leaves lengths first_not new l = left_if (lengths && all_bits first_not) new l

-- interleaving two blocks: the answer; 2's place counts over the blocks one after another
abbrev pub interleave_answer : List ℕ → List ℕ → List ℕ → Answer
interleave_answer b2 b3 out = order_answer (right_lengths (length b2) (length b3) (length out)) (first_not_bit (b2 ++ b3))

-- and the symbols then
abbrev pub interleave_bytes : List ℕ → List ℕ → List ℕ → List ℕ
interleave_bytes b2 b3 out =
    order_leaves (right_lengths (length b2) (length b3) (length out)) (first_not_bit (b2 ++ b3)) (interleaved (b2 ++ b3)) out

-- taking symbols apart: the answer
abbrev pub deinterleave_answer : List ℕ → List ℕ → List ℕ → Answer
deinterleave_answer s b2 b3 = order_answer (right_lengths (length b2) (length b3) (length s)) (first_not_bit s)

-- the block of subframe 2 then
abbrev pub deinterleave_block2 : List ℕ → List ℕ → List ℕ → List ℕ
deinterleave_block2 s b2 b3 =
    order_leaves (right_lengths (length b2) (length b3) (length s)) (first_not_bit s) (first_block s) b2

-- and that of subframe 3
abbrev pub deinterleave_block3 : List ℕ → List ℕ → List ℕ → List ℕ
deinterleave_block3 s b2 b3 =
    order_leaves (right_lengths (length b2) (length b3) (length s)) (first_not_bit s) (second_block s) b3
