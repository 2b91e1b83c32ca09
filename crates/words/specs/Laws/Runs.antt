-- What a right block's ones cannot be: an odd number, two in up to 600 places, or all within 24 neighbouring places.
-- Assumes nothing.
use Rattle.std.specs.Prelude.{◌≡◌, refl, Bool, true, not, ◌&&◌, List, [], ◌∷◌, ℕ, zero, suc, ◌+◌, ◌*◌, ◌/◌, ◌%◌, ◌^◌, ◌≤◌, ◌<◌, eqb, length, get_or}
use Rattle.std.proofs.Common.{sym, ap, ap₂, ◌∙◌, subst, zero-le, add-zero, add-suc, suc-add, zero-add, pow-suc, lt_of_lt_of_le, arith, lit<, lit≤, pow_mono}
use Rattle.std.proofs.Math.Bool.{and-eq-true_iff}
use Rattle.std.proofs.Math.Arith.{bin_ind, lt-one}
use Rattle.std.specs.Int.Bits.{bit_xor, xor_zero_r}
use Rattle.std.specs.Int.Count.{ones, ones_in, ones_step}
use Rattle.std.proofs.lemmas.Bool.{eqb-false, not-true}
use Rattle.words.specs.Bits.{IsBits}
use Rattle.words.specs.Sums.{weight}
use Rattle.words.specs.Crc.{poly, reduced, fed, remainder_from, Right}
use Rattle.words.specs.Laws.Digits.{first_is_bit, other_bits}
use Rattle.words.specs.Laws.Xor.{xor_half, xor_odd}
use Rattle.words.specs.Laws.Crc.{fed_low}

-- ---- zeros behind a register make it zero only where it is zero

reduced_zero : (s : ℕ) → s % 2 ≡ 0 → reduced s ≡ 0 → s ≡ 0
unfolding reduced
reduced_zero s h z = go (s / 2 ^ 24 % 2) refl (omega arith)
  where
    odd : (s : ℕ) → s % 2 ≡ 0 → (s + poly) % 2 ≡ 0 → ⊥
    odd s h k = omega arith

    go : (t : ℕ) → s / 2 ^ 24 % 2 ≡ t → t < 2 → s ≡ 0
    go zero e l = sym (ap (λ (x : ℕ). bit_xor s (x * poly)) e ∙ xor_zero_r s) ∙ z
    go (suc zero) e l =
        absurd (odd s h (sym (xor_odd s poly) ∙ ap (λ (x : ℕ). x % 2) (sym (ap (λ (x : ℕ). bit_xor s (x * poly)) e) ∙ z)))
    go (suc (suc t)) e l = absurd (omega arith)

fed_zero : (r : ℕ) → fed r 0 ≡ 0 → r ≡ 0
unfolding fed
fed_zero r z = omega (arith, reduced_zero (r * 2 + 0) (omega arith) z)

zeros_behind : (r : ℕ) (l : List ℕ) → weight l ≡ 0 → remainder_from r l ≡ 0 → r ≡ 0
zeros_behind r [] w z = z
zeros_behind r (zero ∷ l) w z = fed_zero r (zeros_behind (fed r 0) l (omega arith) z)
zeros_behind r (suc x ∷ l) w z = absurd (omega arith)

-- ---- two ones

-- the remainder of x^n
power : ℕ → ℕ
power zero = 1
power (suc n) = fed (power n) 0

-- x^(n + 1) + 1 is no multiple of the polynomial, for the n below a bound, from a register on
apart_from : ℕ → ℕ → Bool
apart_from zero r = true
apart_from (suc n) r = not (eqb (fed r 1) 0) && apart_from n (fed r 0)

powers_apart : apart_from 599 1 ≡ true
unfolding apart_from fed
powers_apart = refl

apart_at : (m n : ℕ) → apart_from m (power n) ≡ true → (k : ℕ) → k < m → fed (power (n + k)) 1 ≡ 0 → ⊥
unfolding apart_from power
apart_at zero n t k h = absurd (omega arith)
apart_at (suc m) n t zero h =
    subst (λ (x : ℕ). fed (power x) 1 ≡ 0 → ⊥) (sym (add-zero n))
    (eqb-false (fed (power n) 1) 0
    (not-true (eqb (fed (power n) 1) 0) ((and-eq-true_iff (not (eqb (fed (power n) 1) 0)) (apart_from m (fed (power n) 0))).0 t).0))
apart_at (suc m) n t (suc k) h =
    subst (λ (x : ℕ). fed (power x) 1 ≡ 0 → ⊥) (suc-add n k ∙ sym (add-suc n k))
    (apart_at m (suc n) ((and-eq-true_iff (not (eqb (fed (power n) 1) 0)) (apart_from m (fed (power n) 0))).0 t).1 k (omega arith))

power_apart : (n : ℕ) → n < 599 → fed (power n) 1 ≡ 0 → ⊥
unfolding power
power_apart n h = subst (λ (x : ℕ). fed (power x) 1 ≡ 0 → ⊥) (zero-add n) (apart_at 599 0 powers_apart n h)

-- a one behind x^n, and zeros behind that
one_more : (n : ℕ) (l : List ℕ) → n + length l ≤ 599 → weight l ≡ 1 → remainder_from (power n) l ≡ 0 → ⊥
unfolding power
one_more n [] h w z = omega arith
one_more n (zero ∷ l) h w z = one_more (suc n) l (omega arith) (omega arith) z
one_more n (suc zero ∷ l) h w z = power_apart n (omega arith) (zeros_behind (fed (power n) 1) l (omega arith) z)
one_more n (suc (suc x) ∷ l) h w z = omega arith

pub not_two : (l : List ℕ) → length l ≤ 600 → IsBits l → Right l → weight l ≡ 2 → ⊥
unfolding fed power
not_two [] h b z w = omega arith
not_two (zero ∷ l) h b z w = not_two l (omega arith) (other_bits b) z (omega arith)
not_two (suc zero ∷ l) h b z w = one_more 0 l (omega arith) (omega arith) z
not_two (suc (suc x) ∷ l) h b z w = omega (arith, first_is_bit b)

-- ---- the number of ones is even, since the polynomial has an even number of terms

ones_in_lem : (k n : ℕ) → n < 2 ^ k → ones n ≡ ones_in k n
unfolding ones ones_in
ones_in_lem zero n h = ap ones (lt-one h)
ones_in_lem (suc k) n h = ones_step n ∙ ap (λ (x : ℕ). n % 2 + x) (ones_in_lem k (n / 2) (omega (arith, pow-suc 2 k)))

ones_poly : ones poly ≡ 14
unfolding ones_in
ones_poly = ones_in_lem 25 poly (lit< tt)

ones_zero : (b : ℕ) → ones b % 2 ≡ (ones 0 + ones b) % 2
unfolding ones ones_in
ones_zero b = omega arith

ones_join : (x p q r u v : ℕ) → x % 2 ≡ (p + q) % 2 → r % 2 ≡ (u + v) % 2 → (r + x) % 2 ≡ ((u + p) + (v + q)) % 2
ones_join x p q r u v e f = omega arith

ones_more : (n : ℕ) → ((b : ℕ) → ones (bit_xor (n / 2) b) % 2 ≡ (ones (n / 2) + ones b) % 2)
    → (b : ℕ) → ones (bit_xor n b) % 2 ≡ (ones n + ones b) % 2
ones_more n ih b =
    ap (λ (x : ℕ). x % 2) (ones_step (bit_xor n b) ∙ ap (λ (x : ℕ). bit_xor n b % 2 + ones x) (xor_half n b))
    ∙ ones_join (ones (bit_xor (n / 2) (b / 2))) (ones (n / 2)) (ones (b / 2)) (bit_xor n b % 2) (n % 2) (b % 2) (ih (b / 2)) (low n b)
    ∙ ap₂ (λ (x y : ℕ). (x + y) % 2) (sym (ones_step n)) (sym (ones_step b))
  where
    low : (n b : ℕ) → bit_xor n b % 2 % 2 ≡ (n % 2 + b % 2) % 2
    low n b = omega (arith, xor_odd n b)

ones_xor : (a b : ℕ) → ones (bit_xor a b) % 2 ≡ (ones a + ones b) % 2
ones_xor a = bin_ind (λ (n : ℕ). (b : ℕ) → ones (bit_xor n b) % 2 ≡ (ones n + ones b) % 2) ones_zero ones_more a

ones_taken : (t : ℕ) → t < 2 → ones (t * poly) % 2 ≡ 0
unfolding ones ones_in
ones_taken zero h = refl
ones_taken (suc zero) h = ap (λ (x : ℕ). x % 2) ones_poly
ones_taken (suc (suc t)) h = absurd (omega arith)

reduced_ones : (s : ℕ) → ones (reduced s) % 2 ≡ ones s % 2
unfolding reduced
reduced_ones s = omega (arith, ones_xor s (s / 2 ^ 24 % 2 * poly), ones_taken (s / 2 ^ 24 % 2) (omega arith))

fed_ones : (r b : ℕ) → ones (fed r b) % 2 ≡ (ones r + b) % 2
unfolding fed
fed_ones r b =
    reduced_ones (r * 2 + b % 2) ∙ ap (λ (x : ℕ). x % 2) (ones_step (r * 2 + b % 2) ∙ ap₂ (λ (x y : ℕ). x + ones y) (low r b) (high r b))
    ∙ swap (ones r) b
  where
    low : (r b : ℕ) → (r * 2 + b % 2) % 2 ≡ b % 2
    low r b = omega arith

    high : (r b : ℕ) → (r * 2 + b % 2) / 2 ≡ r
    high r b = omega arith

    swap : (x b : ℕ) → (b % 2 + x) % 2 ≡ (x + b) % 2
    swap x b = omega arith

remainder_ones : (r : ℕ) (l : List ℕ) → ones (remainder_from r l) % 2 ≡ (ones r + weight l) % 2
remainder_ones r [] = omega arith
remainder_ones r (x ∷ l) = remainder_ones (fed r x) l ∙ swap (ones (fed r x)) (ones r) x (weight l) (fed_ones r x)
  where
    swap : (s r x w : ℕ) → s % 2 ≡ (r + x) % 2 → (s + w) % 2 ≡ (r + (x + w)) % 2
    swap s r x w e = omega arith

pub even_ones : (l : List ℕ) → Right l → weight l % 2 ≡ 0
unfolding ones ones_in
even_ones l e = omega (arith, sym (remainder_ones 0 l) ∙ ap (λ (x : ℕ). ones x % 2) e)

-- ---- ones within 24 neighbouring places

no_ones : (l : List ℕ) → ((k : ℕ) → get_or l k 0 ≡ 0) → weight l ≡ 0
no_ones [] h = refl
no_ones (x ∷ l) h = omega (arith, h 0, no_ones l (λ k. h (suc k)))

-- a register of k digits, then m places and then zeros
pub short_run : (m k r : ℕ) (l : List ℕ) → r < 2 ^ k → k + m ≤ 24 → IsBits l → ((i : ℕ) → m ≤ i → get_or l i 0 ≡ 0)
    → remainder_from r l ≡ 0 → (r ≡ 0) × (weight l ≡ 0)
short_run zero k r l h n b past z = (zeros_behind r l (no_ones l (λ i. past i zero-le)) z, no_ones l (λ i. past i zero-le))
short_run (suc m) k r [] h n b past z = (z, refl)
short_run (suc m) k r (x ∷ l) h n b past z =
    let small : r < 2 ^ 23 = lt_of_lt_of_le h (pow_mono {i = k} {j = 23} (omega arith)) in
    let bit : x < 2 = first_is_bit b in
    let same : fed r x ≡ r * 2 + x = fed_low r x (omega arith) ∙ omega arith in
    let rest : (r * 2 + x ≡ 0) × (weight l ≡ 0) =
    short_run m (suc k) (r * 2 + x) l (omega (arith, pow-suc 2 k)) (omega arith) (other_bits b) (λ i g. past (suc i) (omega arith))
    (subst (λ (s : ℕ). remainder_from s l ≡ 0) same z) in
    (omega arith, omega arith)

-- zeros, then 24 places, then zeros
pub not_within : (p : ℕ) (l : List ℕ) → IsBits l → ((i : ℕ) → i < p → get_or l i 0 ≡ 0) → ((i : ℕ) → p + 24 ≤ i → get_or l i 0 ≡ 0)
    → Right l → weight l ≡ 0
unfolding fed
not_within zero l b before past z = (short_run 24 0 0 l (lit< tt) (lit≤ tt) b (λ i g. past i (omega arith)) z).1
not_within (suc p) [] b before past z = refl
not_within (suc p) (zero ∷ l) b before past z =
    omega (arith, not_within p l (other_bits b) (λ i g. before (suc i) (omega arith)) (λ i g. past (suc i) (omega arith)) z)
not_within (suc p) (suc x ∷ l) b before past z = absurd (omega (arith, before 0 (omega arith)))
