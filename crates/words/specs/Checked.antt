-- THEOREMS: a block of data with its check bits is right, and with no other 24 bits.
-- Assumes nothing.
use Rattle.std.specs.Prelude.{◌≡◌, List, ◌++◌, ℕ, ◌≤◌, length, get_or}
use Rattle.std.proofs.Common.{sym, ap, ap₂, ◌∙◌, arith, lit<, lit≤}
use Rattle.std.specs.Int.Bits.{bit_xor, xor_self}
use Rattle.std.proofs.Math.ListN.{get_or-eq_default}
use Rattle.words.specs.Bits.{IsBits, bits_of}
use Rattle.words.specs.Sums.{sums}
use Rattle.words.specs.Crc.{remainder_from, remainder_of, check_of, block_of, Right}
use Rattle.words.specs.Laws.Digits.{length_bits, bits_are}
use Rattle.words.specs.Laws.Sums.{length_sums, sums_are, differing_weight, differing_none}
use Rattle.words.specs.Laws.Crc.{remainder_from_xor, remainder_append, check_lt, remainder_block}
use Rattle.words.specs.Laws.Runs.{short_run}

-- Data with their check bits behind them have the remainder zero.
pub block_right : (d : List ℕ) → Right (block_of d)
unfolding block_of
block_right d = remainder_block d (check_of d) (check_lt d) ∙ xor_self (check_of d)

-- If data with 24 bits behind them have the remainder zero, those 24 are the check bits.
pub right_only : (d c : List ℕ) → length c ≡ 24 → IsBits c → Right (d ++ c) → c ≡ bits_of 24 (check_of d)
unfolding block_of
right_only d c e b z =
    differing_none c g
    (differing_weight c g same b (bits_are 24 (check_of d))
    ∙ (short_run 24 0 0 (sums c g) (lit< tt) (lit≤ tt) (sums_are c g) past zero_sum).1)
  where
    g : List ℕ
    g = bits_of 24 (check_of d)

    same : length c ≡ length g
    same = e ∙ sym (length_bits 24 (check_of d))

    past : (i : ℕ) → 24 ≤ i → get_or (sums c g) i 0 ≡ 0
    past i h = get_or-eq_default (sums c g) 0 (omega (arith, length_sums c g same))

    zero_sum : remainder_from 0 (sums c g) ≡ 0
    zero_sum =
        ap (λ (r : ℕ). remainder_from r (sums c g)) (sym (xor_self (remainder_of d)))
        ∙ remainder_from_xor (remainder_of d) (remainder_of d) c g same
        ∙ ap₂ bit_xor (sym (remainder_append 0 d c) ∙ z) (sym (remainder_append 0 d g) ∙ block_right d)
