-- The exclusive or of numbers is the sum modulo 2 of their bits, and how many ones a number has.
-- Assumes nothing.
use Rattle.std.specs.Prelude.{◌≡◌, refl, List, [], ◌∷◌, ℕ, zero, suc, ◌+◌, ◌*◌, ◌/◌, ◌%◌, ◌^◌, ◌<◌, length}
use Rattle.std.proofs.Common.{sym, ap, ap₂, ◌∙◌, arith}
use Rattle.std.proofs.Math.Nat.{suc_inj}
use Rattle.std.proofs.Math.Arith.{bin_ind}
use Rattle.std.specs.Int.Bits.{bit_xor, differ, xor_step, xor_zero_r, xor_self}
use Rattle.std.proofs.lemmas.Nat.{xor_shr, xor_comm, xor_block, ones_cat}
use Rattle.std.specs.Int.Count.{ones}
use Rattle.words.specs.Bits.{IsBits, value_of, bits_of}
use Rattle.words.specs.Sums.{add2, sums, weight}
use Rattle.words.specs.Laws.Digits.{first_is_bit, other_bits, value_lt}
use Rattle.words.specs.Laws.Sums.{add2_left, add2_right, add2_assoc, length_sums}

differ_add2 : (x y : ℕ) → x < 2 → y < 2 → differ x y ≡ add2 x y
differ_add2 zero zero hx hy = refl
differ_add2 zero (suc zero) hx hy = refl
differ_add2 zero (suc (suc y)) hx hy = absurd (omega arith)
differ_add2 (suc zero) zero hx hy = refl
differ_add2 (suc zero) (suc zero) hx hy = refl
differ_add2 (suc zero) (suc (suc y)) hx hy = absurd (omega arith)
differ_add2 (suc (suc x)) y hx hy = absurd (omega arith)

-- ---- by the lowest digits

pub xor_low : (a b : ℕ) → bit_xor a b ≡ bit_xor (a / 2) (b / 2) * 2 + add2 a b
xor_low a b =
    xor_step a b
    ∙ ap (λ (x : ℕ). bit_xor (a / 2) (b / 2) * 2 + x)
    (differ_add2 (a % 2) (b % 2) (omega arith) (omega arith) ∙ omega arith)

pub xor_half : (a b : ℕ) → bit_xor a b / 2 ≡ bit_xor (a / 2) (b / 2)
xor_half a b = xor_shr a b 1

pub xor_odd : (a b : ℕ) → bit_xor a b % 2 ≡ add2 a b
xor_odd a b = omega (arith, xor_low a b)

pub xor_assoc : (a b c : ℕ) → bit_xor (bit_xor a b) c ≡ bit_xor a (bit_xor b c)
xor_assoc a =
    bin_ind (λ (n : ℕ). (b c : ℕ) → bit_xor (bit_xor n b) c ≡ bit_xor n (bit_xor b c)) (λ b c. refl)
    (λ n ih b c. step n ih b c) a
  where
    step : (n : ℕ) → ((b c : ℕ) → bit_xor (bit_xor (n / 2) b) c ≡ bit_xor (n / 2) (bit_xor b c))
        → (b c : ℕ) → bit_xor (bit_xor n b) c ≡ bit_xor n (bit_xor b c)
    step n ih b c =
        xor_low (bit_xor n b) c
        ∙ ap₂ (λ (x y : ℕ). x * 2 + y)
        (ap (λ (x : ℕ). bit_xor x (c / 2)) (xor_half n b) ∙ ih (b / 2) (c / 2) ∙ ap (bit_xor (n / 2)) (sym (xor_half b c)))
        (add2_left (bit_xor n b) c ∙ ap (λ (x : ℕ). add2 x c) (xor_odd n b) ∙ add2_assoc n b c
        ∙ ap (add2 n) (sym (xor_odd b c)) ∙ sym (add2_right n (bit_xor b c)))
        ∙ sym (xor_low n (bit_xor b c))

pub xor_swap : (a b c d : ℕ) → bit_xor (bit_xor a b) (bit_xor c d) ≡ bit_xor (bit_xor a c) (bit_xor b d)
xor_swap a b c d =
    xor_assoc a b (bit_xor c d)
    ∙ ap (bit_xor a) (sym (xor_assoc b c d) ∙ ap (λ (x : ℕ). bit_xor x d) (xor_comm b c) ∙ xor_assoc c b d)
    ∙ sym (xor_assoc a c (bit_xor b d))

-- only equal numbers have the exclusive or 0
pub xor_equal : (a b : ℕ) → bit_xor a b ≡ 0 → a ≡ b
xor_equal a b e =
    sym (xor_zero_r a) ∙ ap (bit_xor a) (sym (xor_self b)) ∙ sym (xor_assoc a b b) ∙ ap (λ (x : ℕ). bit_xor x b) e

-- ---- bits and lists of them

pub xor_bit : (a b k : ℕ) → bit_xor a b / 2 ^ k % 2 ≡ add2 (a / 2 ^ k % 2) (b / 2 ^ k % 2)
xor_bit a b k = ap (λ (x : ℕ). x % 2) (xor_shr a b k) ∙ xor_odd (a / 2 ^ k) (b / 2 ^ k) ∙ omega arith

pub bits_xor : (w a b : ℕ) → bits_of w (bit_xor a b) ≡ sums (bits_of w a) (bits_of w b)
unfolding bits_of
bits_xor zero a b = refl
bits_xor (suc w) a b = ap₂ (λ (x : ℕ) (l : List ℕ). x ∷ l) (xor_bit a b w) (bits_xor w a b)

xor_bits : (x y : ℕ) → add2 x y % 2 ≡ bit_xor (x % 2) (y % 2)
xor_bits x y = go (x % 2) (y % 2) refl refl (omega arith) (omega arith)
  where
    go : (p q : ℕ) → x % 2 ≡ p → y % 2 ≡ q → p < 2 → q < 2 → add2 x y % 2 ≡ bit_xor p q
    go zero zero e f hp hq = omega arith
    go zero (suc zero) e f hp hq = omega arith
    go (suc zero) zero e f hp hq = let r : add2 x y % 2 ≡ 1 = omega arith in r
    go (suc zero) (suc zero) e f hp hq = let r : add2 x y % 2 ≡ 0 = omega arith in r
    go zero (suc (suc q)) e f hp hq = absurd (omega arith)
    go (suc zero) (suc (suc q)) e f hp hq = absurd (omega arith)
    go (suc (suc p)) q e f hp hq = absurd (omega arith)

-- the number of a sum of lists is the exclusive or of their numbers
pub value_sums : (a b : List ℕ) → length a ≡ length b → value_of (sums a b) ≡ bit_xor (value_of a) (value_of b)
unfolding value_of
value_sums [] [] e = refl
value_sums [] (y ∷ b) e = absurd (omega arith)
value_sums (x ∷ a) [] e = absurd (omega arith)
value_sums (x ∷ a) (y ∷ b) e =
    let same : length a ≡ length b = suc_inj e in
    let below : value_of b < 2 ^ length a = rw same (value_lt b) in
    ap₂ (λ (p q : ℕ). p + q)
    (ap₂ (λ (p k : ℕ). p * 2 ^ k) (xor_bits x y) (length_sums a b same))
    (value_sums a b same)
    ∙ sym (xor_block (length a) (x % 2) (y % 2) (value_of a) (value_of b) (value_lt a) below)
    ∙ ap (λ (k : ℕ). bit_xor (x % 2 * 2 ^ length a + value_of a) (y % 2 * 2 ^ k + value_of b)) same

-- ---- how many ones

pub ones_value : (l : List ℕ) → IsBits l → ones (value_of l) ≡ weight l
unfolding value_of ones
ones_value [] h = refl
ones_value (b ∷ l) h =
    ones_cat (length l) (b % 2) (value_of l) (value_lt l)
    ∙ ap₂ (λ (m n : ℕ). m + n) (one b (first_is_bit h)) (ones_value l (other_bits h))
  where
    one : (b : ℕ) → b < 2 → ones (b % 2) ≡ b
    one zero h = refl
    one (suc zero) h = refl
    one (suc (suc b)) h = absurd (omega arith)
