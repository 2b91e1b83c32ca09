-- Bits that stand for a number with a sign.
-- Assumes nothing.
use Rattle.std.specs.Prelude.{◌≡◌, refl, Bool, true, false, ◌&&◌, List, ◌∷◌, ℕ, zero, suc, ◌+◌, ◌*◌, ◌-◌, ◌/◌, ◌%◌, ◌^◌, ◌≤◌, ◌<◌, ltb, leb, eqb, ℤ, pos, negsuc, ◌-ℤ◌, length, get_or}
use Rattle.std.proofs.Common.{ap, ◌∙◌, pow-suc, not-suc-le-zero, one-mul, mod-eq_of_lt, arith, lt-ltb, le-leb, eq-eqb, ne_eqb, eqb-true, ltb-true, leb-true}
use Rattle.std.proofs.Math.Bool.{and-eq-true_iff}
use Rattle.std.proofs.Math.Nat.{div-eq_of_lt}
use Rattle.std.proofs.Math.Pow.{high}
use Rattle.std.specs.Int.Signed.{mag}
use Rattle.std.proofs.lemmas.Bool.{eqb-false}
use Rattle.words.specs.Bits.{value_of, bits_of, signed_of, unsigned_of, holds_signed}
use Rattle.words.specs.Laws.Digits.{value_lt, length_bits, value_bits}

-- a less b, where a is the smaller
less : (a b : ℕ) → a < b → pos a -ℤ pos b ≡ negsuc (b - suc a)
less a zero h = absurd (not-suc-le-zero h)
less a (suc b) h = rw (lt-ltb a (suc b) h) refl

-- a first bit that is one, and one that is not
pub signed_one : (l : List ℕ) → get_or l 0 0 % 2 ≡ 1 → signed_of l ≡ negsuc (2 ^ length l - suc (value_of l))
unfolding signed_of
signed_one l e = rw (eq-eqb (get_or l 0 0 % 2) 1 e) (less (value_of l) (2 ^ length l) (value_lt l))

pub signed_zero : (l : List ℕ) → (get_or l 0 0 % 2 ≡ 1 → ⊥) → signed_of l ≡ pos (value_of l)
unfolding signed_of
signed_zero l e = rw (ne_eqb (get_or l 0 0 % 2) 1 e) refl

-- what bits stand for with a sign has their number
pub unsigned_signed : (l : List ℕ) → unsigned_of (length l) (signed_of l) ≡ value_of l
unsigned_signed l = go (eqb (get_or l 0 0 % 2) 1) refl
  where
    go : (t : Bool) → eqb (get_or l 0 0 % 2) 1 ≡ t → unsigned_of (length l) (signed_of l) ≡ value_of l
    go true e = ap (unsigned_of (length l)) (signed_one l (eqb-true (get_or l 0 0 % 2) 1 e)) ∙ omega (arith, value_lt l)
    go false e = ap (unsigned_of (length l)) (signed_zero l (eqb-false (get_or l 0 0 % 2) 1 e))

-- what k + 1 bits stand for is from -(2 ^ k) to 2 ^ k - 1
pub signed_mag : (b : ℕ) (l : List ℕ) → mag (signed_of (b ∷ l)) < 2 ^ length l
unfolding value_of
signed_mag b l = go (b % 2) refl (omega arith)
  where
    go : (t : ℕ) → b % 2 ≡ t → t < 2 → mag (signed_of (b ∷ l)) < 2 ^ length l
    go zero e h =
        rw (signed_zero (b ∷ l) (λ q. omega arith), e) (omega (arith, value_lt l))
    go (suc zero) e h =
        rw (signed_one (b ∷ l) e, e) (omega (arith, value_lt l, pow-suc 2 (length l), one-mul (2 ^ length l)))
    go (suc (suc t)) e h = absurd (omega arith)

-- the bits of a number with a sign stand for it
pub signed_bits : (k : ℕ) (z : ℤ) → mag z < 2 ^ k → signed_of (bits_of (suc k) (unsigned_of (suc k) z)) ≡ z
unfolding bits_of
signed_bits k (pos n) h =
    signed_zero (bits_of (suc k) n) (λ e. omega (arith, div-eq_of_lt h))
    ∙ ap pos (value_bits (suc k) n ∙ mod-eq_of_lt (omega (arith, pow-suc 2 k)))
signed_bits k (negsuc m) h =
    let n : ℕ = 2 ^ suc k - suc m in
    let split : n ≡ 1 * 2 ^ k + (2 ^ k - suc m) = omega (arith, pow-suc 2 k, one-mul (2 ^ k)) in
    let top : n / 2 ^ k ≡ 1 = ap (λ (x : ℕ). x / 2 ^ k) split ∙ high 1 k (omega arith) in
    let small : n < 2 ^ suc k = omega (arith, pow-suc 2 k) in
    signed_one (bits_of (suc k) n) (omega arith)
    ∙ rw (length_bits (suc k) n, value_bits (suc k) n, mod-eq_of_lt small) (ap negsuc (omega (arith, pow-suc 2 k)))

-- the test that w bits hold a number with a sign, and what it says
pub holds_means : (w : ℕ) (z : ℤ) → holds_signed w z ≡ true → (1 ≤ w) × (w ≤ 64) × (mag z < 2 ^ (w - 1))
holds_means w z h =
    let first = (and-eq-true_iff (leb 1 w) (leb w 64 && ltb (mag z) (2 ^ (w - 1)))).0 h in
    let second = (and-eq-true_iff (leb w 64) (ltb (mag z) (2 ^ (w - 1)))).0 first.1 in
    (leb-true 1 w first.0, leb-true w 64 second.0, ltb-true (mag z) (2 ^ (w - 1)) second.1)

pub holds_when : (w : ℕ) (z : ℤ) → 1 ≤ w → w ≤ 64 → mag z < 2 ^ (w - 1) → holds_signed w z ≡ true
holds_when w z p h m = rw (le-leb 1 w p, le-leb w 64 h, lt-ltb (mag z) (2 ^ (w - 1)) m) refl
