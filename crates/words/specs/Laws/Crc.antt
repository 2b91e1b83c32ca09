-- The register of the check bits: it is linear, stays below 2 ^ 24, and bits in a register that is not full stay what they are.
-- Assumes nothing.
use Rattle.std.specs.Prelude.{◌≡◌, refl, List, [], ◌∷◌, ◌++◌, ℕ, zero, suc, ◌+◌, ◌*◌, ◌/◌, ◌%◌, ◌^◌, ◌≤◌, ◌<◌, length, replicate}
use Rattle.std.proofs.Common.{sym, ap, ap₂, ◌∙◌, pow-suc, lt_of_lt_of_le, add-mul, mul_assoc, mul_comm, add_assoc, arith, lit<, lit≤, pow_mono}
use Rattle.std.proofs.Math.Nat.{suc_inj}
use Rattle.std.specs.Int.Bits.{bit_xor, xor_zero_r}
use Rattle.std.proofs.lemmas.Nat.{xor_shr, mod-pow-add}
use Rattle.words.specs.Bits.{bits_of}
use Rattle.words.specs.Sums.{add2, sums}
use Rattle.words.specs.Crc.{poly, reduced, fed, remainder_from, remainder_of, check_of}
use Rattle.words.specs.Laws.Digits.{bits_are}
use Rattle.words.specs.Laws.Sums.{sums_zeros}
use Rattle.words.specs.Laws.Xor.{xor_low, xor_bit, xor_swap}

-- ---- the steps are linear

times_poly : (p q : ℕ) → p < 2 → q < 2 → add2 p q * poly ≡ bit_xor (p * poly) (q * poly)
times_poly zero zero hp hq = refl
times_poly zero (suc zero) hp hq = refl
times_poly zero (suc (suc q)) hp hq = absurd (omega arith)
times_poly (suc zero) zero hp hq = refl
times_poly (suc zero) (suc zero) hp hq = refl
times_poly (suc zero) (suc (suc q)) hp hq = absurd (omega arith)
times_poly (suc (suc p)) q hp hq = absurd (omega arith)

reduced_xor : (s t : ℕ) → reduced (bit_xor s t) ≡ bit_xor (reduced s) (reduced t)
unfolding reduced
reduced_xor s t =
    ap (λ (x : ℕ). bit_xor (bit_xor s t) (x * poly)) (xor_bit s t 24)
    ∙ ap (bit_xor (bit_xor s t)) (times_poly (s / 2 ^ 24 % 2) (t / 2 ^ 24 % 2) (omega arith) (omega arith))
    ∙ xor_swap s t (s / 2 ^ 24 % 2 * poly) (t / 2 ^ 24 % 2 * poly)

behind_xor : (r s b c : ℕ) → bit_xor r s * 2 + add2 b c % 2 ≡ bit_xor (r * 2 + b % 2) (s * 2 + c % 2)
behind_xor r s b c =
    sym (xor_low (r * 2 + b % 2) (s * 2 + c % 2)
    ∙ ap₂ (λ (x y : ℕ). bit_xor x y * 2 + add2 (r * 2 + b % 2) (s * 2 + c % 2)) (half r b) (half s c)
    ∙ ap (λ (x : ℕ). bit_xor r s * 2 + x) (last r s b c))
  where
    half : (x y : ℕ) → (x * 2 + y % 2) / 2 ≡ x
    half x y = omega arith

    last : (r s b c : ℕ) → add2 (r * 2 + b % 2) (s * 2 + c % 2) ≡ add2 b c % 2
    last r s b c = omega arith

fed_xor : (r s b c : ℕ) → fed (bit_xor r s) (add2 b c) ≡ bit_xor (fed r b) (fed s c)
unfolding fed
fed_xor r s b c = ap reduced (behind_xor r s b c) ∙ reduced_xor (r * 2 + b % 2) (s * 2 + c % 2)

pub remainder_from_xor : (r s : ℕ) (a b : List ℕ) → length a ≡ length b
    → remainder_from (bit_xor r s) (sums a b) ≡ bit_xor (remainder_from r a) (remainder_from s b)
remainder_from_xor r s [] [] e = refl
remainder_from_xor r s [] (y ∷ b) e = absurd (omega arith)
remainder_from_xor r s (x ∷ a) [] e = absurd (omega arith)
remainder_from_xor r s (x ∷ a) (y ∷ b) e =
    ap (λ (n : ℕ). remainder_from n (sums a b)) (fed_xor r s x y) ∙ remainder_from_xor (fed r x) (fed s y) a b (suc_inj e)

pub remainder_append : (r : ℕ) (a b : List ℕ) → remainder_from r (a ++ b) ≡ remainder_from (remainder_from r a) b
remainder_append r [] b = refl
remainder_append r (x ∷ a) b = remainder_append (fed r x) a b

-- ---- the register stays below 2 ^ 24

reduced_lt : (s : ℕ) → s < 2 ^ 25 → reduced s < 2 ^ 24
unfolding reduced
reduced_lt s h = go (s / 2 ^ 24) refl (omega arith)
  where
    go : (t : ℕ) → s / 2 ^ 24 ≡ t → t < 2 → bit_xor s (s / 2 ^ 24 % 2 * poly) < 2 ^ 24
    go zero e l = omega (arith, ap (λ (x : ℕ). bit_xor s (x % 2 * poly)) e ∙ xor_zero_r s)
    go (suc zero) e l =
        omega (arith, ap (λ (x : ℕ). bit_xor s (x % 2 * poly)) e, xor_shr s poly 24 ∙ ap (λ (x : ℕ). bit_xor x 1) e)
    go (suc (suc t)) e l = absurd (omega arith)

pub fed_lt : (r b : ℕ) → r < 2 ^ 24 → fed r b < 2 ^ 24
unfolding fed
fed_lt r b h = reduced_lt (r * 2 + b % 2) (omega arith)

pub remainder_from_lt : (r : ℕ) (l : List ℕ) → r < 2 ^ 24 → remainder_from r l < 2 ^ 24
remainder_from_lt r [] h = h
remainder_from_lt r (x ∷ l) h = remainder_from_lt (fed r x) l (fed_lt r x h)

pub check_lt : (d : List ℕ) → check_of d < 2 ^ 24
unfolding check_of
check_lt d = remainder_from_lt 0 (d ++ replicate 24 0) (lit< tt)

-- ---- the two ways of a step

-- no x^24: the bit stands behind the register
pub fed_low : (r b : ℕ) → r * 2 + b % 2 < 2 ^ 24 → fed r b ≡ r * 2 + b % 2
unfolding fed reduced
fed_low r b h = ap (λ (x : ℕ). bit_xor (r * 2 + b % 2) (x * poly)) (top (r * 2 + b % 2) h) ∙ xor_zero_r (r * 2 + b % 2)
  where
    top : (s : ℕ) → s < 2 ^ 24 → s / 2 ^ 24 % 2 ≡ 0
    top s h = omega arith

-- x^24: the polynomial is taken away
pub fed_high : (r b : ℕ) → r < 2 ^ 24 → 2 ^ 24 ≤ r * 2 + b % 2 → fed r b ≡ bit_xor (r * 2 + b % 2) poly
unfolding fed reduced
fed_high r b l h = ap (λ (x : ℕ). bit_xor (r * 2 + b % 2) (x * poly)) (top (r * 2 + b % 2) h (omega arith))
  where
    top : (s : ℕ) → 2 ^ 24 ≤ s → s < 2 ^ 25 → s / 2 ^ 24 % 2 ≡ 1
    top s h k = omega arith

-- ---- bits read into a register that is not full stay what they are

bits_fed_in : (k r n : ℕ) → r < 2 ^ k → (m : ℕ) → k + m ≤ 24 → remainder_from r (bits_of m n) ≡ r * 2 ^ m + n % 2 ^ m
unfolding bits_of
bits_fed_in k r n h zero g = omega arith
bits_fed_in k r n h (suc m) g =
    let small : r < 2 ^ 23 = lt_of_lt_of_le h (pow_mono {i = k} {j = 23} (omega arith)) in
    let b = n / 2 ^ m % 2 in
    let same : fed r b ≡ r * 2 + b = fed_low r b (omega arith) ∙ omega arith in
    ap (λ (s : ℕ). remainder_from s (bits_of m n)) same
    ∙ bits_fed_in (suc k) (r * 2 + b) n (omega (arith, pow-suc 2 k)) m (omega arith)
    ∙ sum r (2 ^ m) b (n % 2 ^ m)
    ∙ ap₂ (λ (x y : ℕ). r * x + y) (sym (pow-suc 2 m)) (sym (mod-pow-add n 1 m) ∙ ap (λ (x : ℕ). n % 2 ^ x) (one_more m))
  where
    sum : (r p b s : ℕ) → (r * 2 + b) * p + s ≡ r * (p * 2) + (b * p + s)
    sum r p b s =
        ap (λ (x : ℕ). x + s) (add-mul (r * 2) b p ∙ ap (λ (x : ℕ). x + b * p) (mul_assoc r 2 p ∙ ap (λ (x : ℕ). r * x) (mul_comm 2 p)))
        ∙ add_assoc (r * (p * 2)) (b * p) s

    one_more : (m : ℕ) → 1 + m ≡ suc m
    one_more m = omega arith

-- ---- a whole block

-- the remainder of data and 24 bits behind them
pub remainder_block : (d : List ℕ) (n : ℕ) → n < 2 ^ 24 → remainder_of (d ++ bits_of 24 n) ≡ bit_xor (check_of d) n
unfolding check_of bits_of
remainder_block d n h =
    remainder_append 0 d (bits_of 24 n)
    ∙ ap₂ (λ (r : ℕ) (l : List ℕ). remainder_from r l) (sym (xor_zero_r (remainder_of d))) (sym (sums_zeros (bits_of 24 n) (bits_are 24 n)))
    ∙ remainder_from_xor (remainder_of d) 0 (replicate 24 0) (bits_of 24 n) refl
    ∙ ap₂ bit_xor (sym (remainder_append 0 d (replicate 24 0))) (bits_fed_in 0 0 n (lit< tt) 24 (lit≤ tt) ∙ omega arith)
