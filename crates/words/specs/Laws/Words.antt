-- The time word: its length, that it is of bits and linear, and how many ones it has.
-- Assumes nothing.
use Rattle.std.specs.Prelude.{◌≡◌, refl, Bool, true, List, [], ◌∷◌, ◌++◌, map, ℕ, zero, suc, ◌+◌, ◌-◌, ◌%◌, ◌≤◌, ◌<◌, leb, length, drop}
use Rattle.std.proofs.Common.{sym, ap, ap₂, ◌∙◌, arith, length-append, length-drop, leb-true}
use Rattle.std.proofs.lemmas.List.{length-map}
use Rattle.words.specs.Bits.{IsBits, bits_of}
use Rattle.words.specs.Sums.{add2, sums, weight}
use Rattle.words.specs.Time.{symbol_back, next_symbol, one_shift, shifted_out, top_bit, time_word}
use Rattle.words.specs.Laws.Digits.{no_bits, more_bits}
use Rattle.words.specs.Laws.Tests.{all_below, below_at}
use Rattle.words.specs.Laws.Sums.{add2_swap, sums_at, sums_append}

-- ---- length and bits

length_shifted_out : (n : ℕ) (r : List ℕ) → length (shifted_out n r) ≡ n
unfolding shifted_out
length_shifted_out zero r = refl
length_shifted_out (suc n) r = ap suc (length_shifted_out n (one_shift r))

pub word_length : (t : ℕ) → length (time_word t) ≡ 52
unfolding time_word
word_length t = ap suc (length-map (shifted_out 51 (bits_of 8 t)) (add2 (top_bit t)) ∙ length_shifted_out 51 (bits_of 8 t))

added_are : (t : ℕ) (l : List ℕ) → IsBits (map (add2 t) l)
added_are t [] = no_bits
added_are t (x ∷ l) = more_bits (omega arith) (added_are t l)

pub word_are : (t : ℕ) → IsBits (time_word t)
unfolding time_word
word_are t = more_bits (omega arith) (added_are (top_bit t) (shifted_out 51 (bits_of 8 t)))

-- ---- linearity

-- one more place in two sums
more : (s p q c d : ℕ) → s % 2 ≡ (p + q) % 2 → (s + add2 c d) % 2 ≡ (p + c + (q + d)) % 2
more s p q c d e = omega arith

next_sums : (a b : List ℕ) → length a ≡ length b → next_symbol (sums a b) ≡ add2 (next_symbol a) (next_symbol b)
next_sums a b e =
    rw (sums_at a b e 7, sums_at a b e 4, sums_at a b e 3, sums_at a b e 2, sums_at a b e 1, sums_at a b e 0)
    (six (symbol_back 1 a) (symbol_back 4 a) (symbol_back 5 a) (symbol_back 6 a) (symbol_back 7 a) (symbol_back 8 a)
    (symbol_back 1 b) (symbol_back 4 b) (symbol_back 5 b) (symbol_back 6 b) (symbol_back 7 b) (symbol_back 8 b))
  where
    last : (p q : ℕ) → (p + q) % 2 ≡ (p % 2 + q % 2) % 2
    last p q = omega arith

    one : (c d : ℕ) → add2 c d % 2 ≡ (c + d) % 2
    one c d = omega arith

    six : (a b c d e f a' b' c' d' e' f' : ℕ)
        → (add2 a a' + add2 b b' + add2 c c' + add2 d d' + add2 e e' + add2 f f') % 2
        ≡ add2 ((a + b + c + d + e + f) % 2) ((a' + b' + c' + d' + e' + f') % 2)
    six a b c d e f a' b' c' d' e' f' =
        more (add2 a a' + add2 b b' + add2 c c' + add2 d d' + add2 e e') (a + b + c + d + e) (a' + b' + c' + d' + e') f f'
        (more (add2 a a' + add2 b b' + add2 c c' + add2 d d') (a + b + c + d) (a' + b' + c' + d') e e'
        (more (add2 a a' + add2 b b' + add2 c c') (a + b + c) (a' + b' + c') d d'
        (more (add2 a a' + add2 b b') (a + b) (a' + b') c c' (more (add2 a a') a a' b b' (one a a')))))
        ∙ last (a + b + c + d + e + f) (a' + b' + c' + d' + e' + f')

drop_sums : (a b : List ℕ) → length a ≡ length b → drop 1 (sums a b) ≡ sums (drop 1 a) (drop 1 b)
drop_sums [] [] e = refl
drop_sums [] (y ∷ b) e = absurd (omega arith)
drop_sums (x ∷ a) [] e = absurd (omega arith)
drop_sums (x ∷ a) (y ∷ b) e = refl

shifted_sums : (a b : List ℕ) → length a ≡ length b → one_shift (sums a b) ≡ sums (one_shift a) (one_shift b)
shifted_sums a b e =
    ap₂ (λ (l : List ℕ) (x : ℕ). l ++ (x ∷ [])) (drop_sums a b e) (next_sums a b e)
    ∙ sym (sums_append (drop 1 a) (drop 1 b) (next_symbol a ∷ []) (next_symbol b ∷ [])
    (simp length-drop (ap (λ (n : ℕ). n - 1) e)))

length_shifted : (a b : List ℕ) → length a ≡ length b → length (one_shift a) ≡ length (one_shift b)
length_shifted a b e = simp (length-append, length-drop) (ap (λ (n : ℕ). n - 1 + 1) e)

pub shifted_out_sums : (n : ℕ) (a b : List ℕ) → length a ≡ length b
    → shifted_out n (sums a b) ≡ sums (shifted_out n a) (shifted_out n b)
unfolding shifted_out
shifted_out_sums zero a b e = refl
shifted_out_sums (suc n) a b e =
    ap₂ (λ (x : ℕ) (l : List ℕ). x ∷ l) (sums_at a b e 0)
    (ap (shifted_out n) (shifted_sums a b e) ∙ shifted_out_sums n (one_shift a) (one_shift b) (length_shifted a b e))

pub added_sums : (t u : ℕ) (a b : List ℕ) → map (add2 (add2 t u)) (sums a b) ≡ sums (map (add2 t) a) (map (add2 u) b)
added_sums t u [] b = refl
added_sums t u (x ∷ a) [] = refl
added_sums t u (x ∷ a) (y ∷ b) = ap₂ (λ (z : ℕ) (l : List ℕ). z ∷ l) (add2_swap t u x y) (added_sums t u a b)

-- ---- every word but that of 0 has 20 ones or more

heavy : ℕ → Bool
heavy t = leb 20 (weight (time_word (suc t)))

all_heavy : all_below heavy 511 ≡ true
unfolding all_below heavy time_word shifted_out bits_of
all_heavy = refl

pub word_heavy : (t : ℕ) → t < 511 → 20 ≤ weight (time_word (suc t))
unfolding heavy
word_heavy t h = leb-true 20 (weight (time_word (suc t))) (below_at heavy 511 all_heavy t h)
