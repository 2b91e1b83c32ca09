-- THEOREMS: where the symbols of each subframe stand in the frame that is sent.
-- Assumes nothing.
use Rattle.std.specs.Prelude.{◌≡◌, List, ℕ, ◌+◌, ◌<◌, get_or}
use Rattle.std.proofs.Common.{◌∙◌, arith, get_or-take, get_or-drop}
use Rattle.tables.specs.declared.matrix.Subframe.TheVariants.{Two, Three}
use Rattle.parity.specs.InOrder.{deinterleaved_at}
use Rattle.parity.specs.Order.{SYMBOLS_2, SYMBOLS_3, leaves_at, deinterleaved, first_block, second_block}
use Rattle.frames.specs.Frame.{TIME_SYMBOLS, time_in, ordered_in, subframe_in}

-- The symbol k of subframe 1 is the symbol k of the frame.
pub time_place : (f : List ℕ) (k : ℕ) → k < TIME_SYMBOLS → get_or (time_in f) k 0 ≡ get_or f k 0
time_place f k h = get_or-take TIME_SYMBOLS f k 0 h

-- The symbol k of subframe 2, before interleaving, is the one that leaves at its place behind the 52.
pub place_2 : (f : List ℕ) (k : ℕ) → k < SYMBOLS_2 → get_or (subframe_in Two f) k 0 ≡ get_or f (TIME_SYMBOLS + leaves_at k) 0
unfolding first_block
place_2 f k h =
    get_or-take SYMBOLS_2 (deinterleaved (ordered_in f)) k 0 h
    ∙ deinterleaved_at (ordered_in f) k (omega arith)
    ∙ get_or-drop TIME_SYMBOLS f (leaves_at k) 0

-- So is the symbol k of subframe 3, which stands 1200 places later.
pub place_3 : (f : List ℕ) (k : ℕ) → k < SYMBOLS_3 → get_or (subframe_in Three f) k 0 ≡ get_or f (TIME_SYMBOLS + leaves_at (SYMBOLS_2 + k)) 0
unfolding second_block
place_3 f k h =
    get_or-drop SYMBOLS_2 (deinterleaved (ordered_in f)) k 0
    ∙ deinterleaved_at (ordered_in f) (SYMBOLS_2 + k) (omega arith)
    ∙ get_or-drop TIME_SYMBOLS f (leaves_at (SYMBOLS_2 + k)) 0
