-- What the proofs of the time word use: the register as a number, what the turns of the loops keep, and packed words.
-- Assumes nothing.
use mathlib.Core.Path.{◌≡◌, refl, sym, ap, ap₂, ◌∙◌, subst}
use mathlib.Core.Bool.{Bool, true, cond, ◌&&◌, and-eq-true_iff}
use mathlib.Core.List.{List, [], ◌∷◌, ◌++◌, map, append-nil}
use Prim.Native.Nat.{ℕ, zero, suc, ◌+◌, ◌-◌, ◌*◌, ◌/◌, ◌%◌, ◌^◌, ◌≤◌, ◌<◌}
use native.Mathlib.Nat.{div-one, mod-mod}
use native.Mathlib.Numerals.{add-one}
use native.Mathlib.Omega.{arith}
use lib.Bits.{bit_and, bit_or, bit_xor, xor_self, xor_zero_l}
use lib.Count.{ones, count_trailing_zeros}
use lib.Dec.{eqb, ltb}
use lib.ListN.{length, get_or, take, drop, set, drop_of_length-le, length-drop}
use lib.Seq.{take-suc-set, append_snoc, take_all}
use borrow.Rule.Slice.PartMut.{put_mid}
use borrow.Author.Tests.{le-leb, lt-leb, ne_eqb, eqb-true, ltb-true}
use Rattle.std.specs.Prelude.{Err}
use Rattle.words.specs.declared.refusal.Refusal.{Refusal}
use Rattle.words.specs.Bits.{IsBits, value_of, bits_of, bits_at, bits_judged}
use Rattle.words.specs.Sums.{add2, sums, differing}
use Rattle.words.specs.Refusal.{LENGTH, TIME, Answer, Done, refused_at, in_turn}
use Rattle.words.specs.Time.{symbol_back, next_symbol, one_shift, shifted_out, top_bit, time_word, time_is, nearest_time, time_read}
use Rattle.words.specs.RoundTrip.{number_back, bits_back}
use Rattle.words.specs.Linear.{word_linear}
use Rattle.words.specs.Laws.Tests.{all_below, below_at}
use Rattle.words.specs.Laws.Digits.{value_lt, length_bits, bits_are, bits_snoc, bits_mod, none_not_bit}
use Rattle.words.specs.Laws.Judged.{read_bits, time_turns}
use Rattle.words.specs.Laws.Sums.{sums_are, differing_weight}
use Rattle.words.specs.Laws.Xor.{xor_assoc, value_sums, ones_value}
use Rattle.words.specs.Laws.Turns.{bits_done}
use Rattle.words.specs.Laws.Words.{word_length, word_are}

-- ---- the register as a number

-- the next symbol, from the register's digits
abbrev next_of : ℕ → ℕ
next_of r = (r + r / 8 + r / 16 + r / 32 + r / 64 + r / 128) % 2

next_is : (r : ℕ) → next_of r ≡ next_symbol (bits_of 8 r)
unfolding bits_of
next_is r =
    sym (ap (λ (x : ℕ). (x % 2 + r / 8 % 2 + r / 16 % 2 + r / 32 % 2 + r / 64 % 2 + r / 128 % 2) % 2) (div-one r)
    ∙ more (r % 2 + r / 8 % 2 + r / 16 % 2 + r / 32 % 2 + r / 64 % 2) (r + r / 8 + r / 16 + r / 32 + r / 64) (r / 128)
    (more (r % 2 + r / 8 % 2 + r / 16 % 2 + r / 32 % 2) (r + r / 8 + r / 16 + r / 32) (r / 64)
    (more (r % 2 + r / 8 % 2 + r / 16 % 2) (r + r / 8 + r / 16) (r / 32)
    (more (r % 2 + r / 8 % 2) (r + r / 8) (r / 16) (more (r % 2) r (r / 8) (mod-mod r 2))))))
  where
    more : (s p c : ℕ) → s % 2 ≡ p % 2 → (s + c % 2) % 2 ≡ (p + c) % 2
    more s p c e = omega arith

lower_bits : (w n : ℕ) → drop 1 (bits_of (suc w) n) ≡ bits_of w n
unfolding bits_of
lower_bits w n = refl

pub shift_is : (r : ℕ) → bits_of 8 (r % 128 * 2 + next_of r) ≡ one_shift (bits_of 8 r)
shift_is r =
    bits_snoc 7 (r % 128 * 2 + next_of r)
    ∙ ap₂ (λ (n b : ℕ). bits_of 7 n ++ (b ∷ [])) (half (next_of r) (omega arith)) (odd (next_of r) (omega arith))
    ∙ ap₂ (λ (l : List ℕ) (b : ℕ). l ++ (b ∷ [])) (bits_mod 7 r ∙ sym (lower_bits 7 r)) (next_is r)
  where
    half : (b : ℕ) → b < 2 → (r % 128 * 2 + b) / 2 ≡ r % 128
    half b h = omega arith

    odd : (b : ℕ) → b < 2 → (r % 128 * 2 + b) % 2 ≡ b
    odd b h = omega arith

-- the register's bits as the code has them
shifted : ℕ → ℕ
shifted r =
    bit_or (r * 2 % 256)
    (bit_and (bit_xor (bit_xor (bit_xor (bit_xor (bit_xor r (r / 8)) (r / 16)) (r / 32)) (r / 64)) (r / 128)) 1)

same_shift : ℕ → Bool
same_shift r = eqb (shifted r) (r % 128 * 2 + next_of r)

all_same_shift : all_below same_shift 256 ≡ true
unfolding all_below same_shift shifted
all_same_shift = refl

pub shifts : (r : ℕ) → r < 256
    → bits_of 8 (bit_or (r * 2 % 256)
    (bit_and (bit_xor (bit_xor (bit_xor (bit_xor (bit_xor r (r / 8)) (r / 16)) (r / 32)) (r / 64)) (r / 128)) 1))
    ≡ one_shift (bits_of 8 r)
unfolding same_shift shifted
shifts r h =
    ap (bits_of 8) (eqb-true (shifted r) (r % 128 * 2 + next_of r) (below_at same_shift 256 all_same_shift r h)) ∙ shift_is r

-- ---- writing

bit_sum : (a b : ℕ) → a < 2 → b < 2 → bit_xor a b ≡ (a + b) % 2
bit_sum zero zero h g = refl
bit_sum zero (suc zero) h g = refl
bit_sum zero (suc (suc b)) h g = absurd (omega arith)
bit_sum (suc zero) zero h g = refl
bit_sum (suc zero) (suc zero) h g = refl
bit_sum (suc zero) (suc (suc b)) h g = absurd (omega arith)
bit_sum (suc (suc a)) b h g = absurd (omega arith)

oldest : (top r : ℕ) → top < 2 → r < 256 → bit_xor top (r / 128) ≡ add2 top (symbol_back 8 (bits_of 8 r))
unfolding bits_of
oldest top r h g = bit_sum top (r / 128) h (omega arith) ∙ omega arith

-- one more symbol behind the first
pub word_more : (symbols : List ℕ) (top r i next : ℕ) → top < 2 → r < 256 → length symbols ≡ 51 → i < 51 → bits_of 8 next ≡ one_shift (bits_of 8 r)
    → take (i + 1) (set symbols i (bit_xor top (r / 128))) ++ map (add2 top) (shifted_out (51 - (i + 1)) (bits_of 8 next))
    ≡ take i symbols ++ map (add2 top) (shifted_out (51 - i) (bits_of 8 r))
unfolding shifted_out
word_more symbols top r i next small byte l h e =
    ap (λ (n : ℕ). take n (set symbols i (bit_xor top (r / 128))) ++ map (add2 top) (shifted_out (51 - (i + 1)) (bits_of 8 next))) (add-one i)
    ∙ ap₂ (λ (x y : List ℕ). x ++ map (add2 top) (shifted_out (51 - (i + 1)) y))
    (take-suc-set symbols i (bit_xor top (r / 128)) (omega arith)) e
    ∙ append_snoc (take i symbols) (bit_xor top (r / 128)) (map (add2 top) (shifted_out (51 - (i + 1)) (one_shift (bits_of 8 r))))
    ∙ ap (λ (x : ℕ). take i symbols ++ x ∷ map (add2 top) (shifted_out (51 - (i + 1)) (one_shift (bits_of 8 r)))) (oldest top r small byte)
    ∙ ap (λ (n : ℕ). take i symbols ++ map (add2 top) (shifted_out n (bits_of 8 r))) (let f : suc (51 - (i + 1)) ≡ 51 - i = omega arith in f)

-- what was written in the place of all but the first
put_behind : (l rest : List ℕ) (k : ℕ) → length l ≤ 1 + k → put_mid 1 k l rest ≡ take 1 l ++ rest
put_behind l rest k h =
    ap (λ (x : List ℕ). take 1 l ++ (rest ++ x)) (drop_of_length-le (drop 1 l) {i = k} (omega (arith, length-drop 1 l)))
    ∙ ap (λ (x : List ℕ). take 1 l ++ x) (append-nil rest)

pub word_done : (out symbols : List ℕ) (toi r i k : ℕ) → length out ≡ 52 → length (set out 0 (top_bit toi)) ≤ 1 + k → length symbols ≡ 51 → 51 ≤ i
    → take i symbols ++ map (add2 (top_bit toi)) (shifted_out (51 - i) (bits_of 8 r)) ≡ map (add2 (top_bit toi)) (shifted_out 51 (bits_of 8 (toi % 256)))
    → put_mid 1 k (set out 0 (top_bit toi)) symbols ≡ time_word toi
unfolding shifted_out time_word
word_done out symbols toi r i k l n m h e =
    put_behind (set out 0 (top_bit toi)) symbols k n
    ∙ ap₂ (λ (x y : List ℕ). x ++ y) (take-suc-set out 0 (top_bit toi) (omega arith))
    (sym (ap (λ (n : ℕ). take i symbols ++ map (add2 (top_bit toi)) (shifted_out n (bits_of 8 r))) (let f : 51 - i ≡ 0 = omega arith in f)
    ∙ append-nil (take i symbols) ∙ take_all i symbols (omega arith)) ∙ e
    ∙ ap (λ (x : List ℕ). map (add2 (top_bit toi)) (shifted_out 51 x)) (bits_mod 8 toi))

-- ---- packed words

pub packed : (l : List ℕ) → length l ≡ 52 → (value_of (bits_at l 0 52) ≡ value_of l) × (value_of (bits_at l 0 52) < 2 ^ 52)
packed l e =
    let whole : value_of (bits_at l 0 52) ≡ value_of l = ap value_of (take_all 52 l (omega arith)) in
    (whole, rw whole (rw e at (value_lt l)))

pub unpacked : (l : List ℕ) → length l ≡ 52 → IsBits l → bits_of 52 (value_of l) ≡ l
unpacked l e h = ap (λ (k : ℕ). bits_of k (value_of l)) (sym e) ∙ bits_back l h

packed_xor : (t u : ℕ) → value_of (time_word (bit_xor t u)) ≡ bit_xor (value_of (time_word t)) (value_of (time_word u))
packed_xor t u = ap value_of (word_linear t u) ∙ value_sums (time_word t) (time_word u) (word_length t ∙ sym (word_length u))

-- the word of u from that of t
pub packed_next : (t u : ℕ) → bit_xor (value_of (time_word t)) (value_of (time_word (bit_xor t u))) ≡ value_of (time_word u)
packed_next t u =
    sym (packed_xor t (bit_xor t u))
    ∙ ap (λ (x : ℕ). value_of (time_word x)) (sym (xor_assoc t t u) ∙ ap (λ (x : ℕ). bit_xor x u) (xor_self t) ∙ xor_zero_l u)

-- the ones of the exclusive or are the places that differ
packed_differing : (s w : List ℕ) → length s ≡ length w → IsBits s → IsBits w
    → ones (bit_xor (value_of s) (value_of w)) ≡ differing s w
packed_differing s w e hs hw =
    ap ones (sym (value_sums s w e)) ∙ ones_value (sums s w) (sums_are s w) ∙ sym (differing_weight s w e hs hw)

pub packed_distance : (n t word : ℕ) → n < 2 ^ 52 → word ≡ value_of (time_word t)
    → ones (bit_xor n word) ≡ differing (bits_of 52 n) (time_word t)
packed_distance n t word h e =
    ap₂ (λ (x y : ℕ). ones (bit_xor x y)) (sym (number_back 52 n h)) e
    ∙ packed_differing (bits_of 52 n) (time_word t) (length_bits 52 n ∙ sym (word_length t)) (bits_are 52 n) (word_are t)

-- ---- the search, from a time on

pub nearest_here : (s : List ℕ) (t : ℕ) → t < 400 → differing s (time_word t) ≤ 9
    → nearest_time (400 - t) t s ≡ time_is t (differing s (time_word t))
unfolding nearest_time
nearest_here s t h near =
    ap (λ (n : ℕ). nearest_time n t s) (let e : 400 - t ≡ suc (400 - (t + 1)) = omega arith in e)
    ∙ ap (λ (b : Bool). cond b (time_is t (differing s (time_word t))) (nearest_time (400 - (t + 1)) (suc t) s))
    (le-leb (differing s (time_word t)) 9 near)

pub nearest_on : (s : List ℕ) (t : ℕ) → t < 400 → 9 < differing s (time_word t)
    → nearest_time (400 - t) t s ≡ nearest_time (400 - (t + 1)) (t + 1) s
unfolding nearest_time
nearest_on s t h far =
    ap (λ (n : ℕ). nearest_time n t s) (let e : 400 - t ≡ suc (400 - (t + 1)) = omega arith in e)
    ∙ ap (λ (b : Bool). cond b (time_is t (differing s (time_word t))) (nearest_time (400 - (t + 1)) (suc t) s))
    (lt-leb (differing s (time_word t)) 9 far)
    ∙ ap (λ (n : ℕ). nearest_time (400 - (t + 1)) n s) (sym (add-one t))

pub nearest_end : (s : List ℕ) (t : ℕ) → 400 ≤ t → nearest_time (400 - t) t s ≡ refused_at TIME 0
unfolding nearest_time
nearest_end s t h = ap (λ (n : ℕ). nearest_time n t s) (let e : 400 - t ≡ 0 = omega arith in e)

pub zero_packed : 0 ≡ value_of (time_word 0)
unfolding value_of time_word shifted_out bits_of
zero_packed = refl

-- ---- the table of what turns a word into the next one

unfoldable pub turns : List ℕ
turns = 0x00F3A905B4BE3 ∷ 0x01E7520B697C6 ∷ 0x03CEA416D2F8C ∷ 0x079D482DA5F18 ∷ 0x0FC9395EFF5D3 ∷ 0x1F9272BDFEBA6 ∷ 0x3FD74C7E49CAF ∷ 0x7FAE98FC9395E ∷ 0x805167036C6A1 ∷ []

-- its entry k is the word of 2 ^ (k + 1) - 1
right : ℕ → Bool
right k = eqb (get_or turns k 0) (value_of (time_word (2 ^ suc k - 1)))

all_right : all_below right 9 ≡ true
unfolding all_below right turns value_of time_word shifted_out bits_of
all_right = refl

-- a time and the one before it differ in the lowest bit that is set and those below it
lowest : ℕ → Bool
lowest t = ltb (count_trailing_zeros 16 (suc t)) 9 && eqb (bit_xor t (suc t)) (2 ^ suc (count_trailing_zeros 16 (suc t)) - 1)

all_lowest : all_below lowest 511 ≡ true
unfolding all_below lowest count_trailing_zeros
all_lowest = refl

right_at : (t : ℕ) → t < 511
    → (count_trailing_zeros 16 (suc t) < 9) × (get_or turns (count_trailing_zeros 16 (suc t)) 0 ≡ value_of (time_word (bit_xor t (suc t))))
unfolding right lowest
right_at t h =
    let k = count_trailing_zeros 16 (suc t) in
    let both = (and-eq-true_iff (ltb k 9) (eqb (bit_xor t (suc t)) (2 ^ suc k - 1))).0 (below_at lowest 511 all_lowest t h) in
    let small : k < 9 = ltb-true k 9 both.0 in (
      small,
      eqb-true (get_or turns k 0) (value_of (time_word (2 ^ suc k - 1))) (below_at right 9 all_right k small)
          ∙ ap (λ (n : ℕ). value_of (time_word n)) (sym (eqb-true (bit_xor t (suc t)) (2 ^ suc k - 1) both.1)),
    )

-- as the code has it
pub turn_at : (t : ℕ) → t < 511
    → (count_trailing_zeros 16 (t + 1) < 9) × (get_or turns (count_trailing_zeros 16 (t + 1)) 0 ≡ value_of (time_word (bit_xor t (t + 1))))
turn_at t h =
    subst
    (λ (x : ℕ). (count_trailing_zeros 16 x < 9) × (get_or turns (count_trailing_zeros 16 x) 0 ≡ value_of (time_word (bit_xor t x))))
    (sym (add-one t)) (right_at t h)

-- ---- reading, by how the bits are judged

-- without 52 symbols it is refused 1
pub read_unfit : (s : List ℕ) → (length s ≡ 52 → ⊥) → time_read s ≡ refused_at LENGTH 0
unfolding time_read
read_unfit s e = rw (ne_eqb (length s) 52 e) refl

-- where the bits are refused, that is the refusal
pub read_refused : (s : List ℕ) (r : Refusal) → length s ≡ 52 → bits_judged s ≡ Err r → time_read s ≡ Err r
read_refused s r e h = time_turns s e ∙ ap (λ (a : Answer). in_turn a (nearest_time 400 0 s)) h

-- else the time is that of their number
pub read_found : (s : List ℕ) (n : ℕ) → length s ≡ 52 → bits_judged s ≡ Done → n ≡ value_of (bits_at s 0 52)
    → time_read s ≡ nearest_time 400 0 (bits_of 52 n)
read_found s n e h is =
    let whole = bits_done s h in
    read_bits s e whole ∙ sym (ap (nearest_time 400 0) (ap (bits_of 52) (is ∙ (packed s e).0) ∙ unpacked s e (none_not_bit s whole)))
