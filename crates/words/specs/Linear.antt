-- THEOREMS: check bits, blocks and time words of sums are the sums of theirs.
-- Assumes nothing.
use Rattle.std.specs.Prelude.{◌≡◌, refl, List, ◌∷◌, ◌++◌, map, ℕ, length, replicate}
use Rattle.std.proofs.Common.{sym, ap, ap₂, ◌∙◌}
use Rattle.std.specs.Int.Bits.{bit_xor}
use Rattle.words.specs.Bits.{bits_of}
use Rattle.words.specs.Sums.{add2, sums}
use Rattle.words.specs.Crc.{remainder_from, remainder_of, check_of, block_of}
use Rattle.words.specs.Time.{top_bit, shifted_out, time_word}
use Rattle.words.specs.Laws.Digits.{length_bits}
use Rattle.words.specs.Laws.Sums.{sums_append}
use Rattle.words.specs.Laws.Xor.{xor_bit, bits_xor}
use Rattle.words.specs.Laws.Crc.{remainder_from_xor, remainder_append}
use Rattle.words.specs.Laws.Words.{shifted_out_sums, added_sums}

-- The check bits of the sum of two lists of one length, whatever it is, are the sum of theirs.
pub check_linear : (a b : List ℕ) → length a ≡ length b → check_of (sums a b) ≡ bit_xor (check_of a) (check_of b)
unfolding check_of
check_linear a b e =
    remainder_append 0 (sums a b) (replicate 24 0)
    ∙ ap (λ (n : ℕ). remainder_from n (replicate 24 0)) (remainder_from_xor 0 0 a b e)
    ∙ remainder_from_xor (remainder_of a) (remainder_of b) (replicate 24 0) (replicate 24 0) refl
    ∙ sym (ap₂ bit_xor (remainder_append 0 a (replicate 24 0)) (remainder_append 0 b (replicate 24 0)))

-- The block of the sum of two lists of data of one length is the sum of their blocks.
pub block_linear : (a b : List ℕ) → length a ≡ length b → block_of (sums a b) ≡ sums (block_of a) (block_of b)
unfolding block_of
block_linear a b e =
    ap (λ (l : List ℕ). sums a b ++ l) (ap (bits_of 24) (check_linear a b e) ∙ bits_xor 24 (check_of a) (check_of b))
    ∙ sym (sums_append a b (bits_of 24 (check_of a)) (bits_of 24 (check_of b)) e)

-- The word of the bitwise sum of two times, of nine bits, used or unused, is the sum of their words.
pub word_linear : (t u : ℕ) → time_word (bit_xor t u) ≡ sums (time_word t) (time_word u)
unfolding time_word
word_linear t u =
    ap₂ (λ (x : ℕ) (l : List ℕ). x ∷ map (add2 x) l) (xor_bit t u 8)
    (ap (shifted_out 51) (bits_xor 8 t u)
    ∙ shifted_out_sums 51 (bits_of 8 t) (bits_of 8 u) (length_bits 8 t ∙ sym (length_bits 8 u)))
    ∙ ap (λ (l : List ℕ). add2 (top_bit t) (top_bit u) ∷ l)
    (added_sums (top_bit t) (top_bit u) (shifted_out 51 (bits_of 8 t)) (shifted_out 51 (bits_of 8 u)))
