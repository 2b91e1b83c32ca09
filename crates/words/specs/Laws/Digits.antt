-- Numbers and their bits: what `value_of` and `bits_of` are to each other.
-- Assumes nothing.
use Rattle.std.specs.Prelude.{◌≡◌, refl, Bool, true, false, cond, List, [], ◌∷◌, ◌++◌, ℕ, zero, suc, ◌+◌, ◌*◌, ◌/◌, ◌%◌, ◌^◌, ◌≤◌, ◌<◌, ltb, length, drop, get_or, take}
use Rattle.std.proofs.Common.{sym, ap, ap₂, ◌∙◌, pow-suc, mul_assoc, mul-one, mul-le-mul_right, div-one, mod-lt, add-one, arith, length-append, shr-shr, pow_pos, ltb-true, lt-ltb}
use Rattle.std.proofs.Math.Nat.{suc_inj, mod-mod, mod-one}
use Rattle.std.proofs.Math.Arith.{lt-one}
use Rattle.std.specs.Int.Bits.{block_half, block_odd}
use Rattle.std.proofs.lemmas.Nat.{mod-pow-add}
use Rattle.std.proofs.Math.Pow.{split}
use Rattle.words.specs.Bits.{IsBits, first_not_bit, value_of, bits_of}

-- ---- bits

pub first_is_bit : {b : ℕ} {l : List ℕ} → IsBits (b ∷ l) → b < 2
first_is_bit h = h.bit 0

pub other_bits : {b : ℕ} {l : List ℕ} → IsBits (b ∷ l) → IsBits l
other_bits h = record { bit = λ k. h.bit (suc k) }

pub no_bits : IsBits []
no_bits = record { bit = λ k. omega arith }

pub more_bits : {b : ℕ} {l : List ℕ} → b < 2 → IsBits l → IsBits (b ∷ l)
more_bits {b} {l} h t = record { bit = go }
  where
    go : (k : ℕ) → get_or (b ∷ l) k 0 < 2
    go zero = h
    go (suc k) = t.bit k

-- lists of bits one after another, and parts of them

pub bits_append : (a b : List ℕ) → IsBits a → IsBits b → IsBits (a ++ b)
bits_append [] b ha hb = hb
bits_append (x ∷ a) b ha hb = more_bits (first_is_bit ha) (bits_append a b (other_bits ha) hb)

pub bits_take : (n : ℕ) (l : List ℕ) → IsBits l → IsBits (take n l)
bits_take zero [] h = no_bits
bits_take zero (x ∷ l) h = no_bits
bits_take (suc n) [] h = no_bits
bits_take (suc n) (x ∷ l) h = more_bits (first_is_bit h) (bits_take n l (other_bits h))

pub bits_drop : (n : ℕ) (l : List ℕ) → IsBits l → IsBits (drop n l)
bits_drop zero [] h = h
bits_drop zero (x ∷ l) h = h
bits_drop (suc n) [] h = h
bits_drop (suc n) (x ∷ l) h = bits_drop n l (other_bits h)

-- ---- the number of bits

pub value_lt : (l : List ℕ) → value_of l < 2 ^ length l
unfolding value_of
value_lt [] = omega arith
value_lt (b ∷ l) =
    let rest : value_of l < 2 ^ length l = value_lt l in
    let most : b % 2 * 2 ^ length l ≤ 1 * 2 ^ length l = mul-le-mul_right (2 ^ length l) (omega arith) in
    omega (arith, pow-suc 2 (length l))

pub value_snoc : (l : List ℕ) (b : ℕ) → value_of (l ++ (b ∷ [])) ≡ value_of l * 2 + b % 2
unfolding value_of
value_snoc [] b = omega (arith, mul-one (b % 2))
value_snoc (a ∷ l) b =
    rw (length-append l (b ∷ []), value_snoc l b)
    (let p : 2 ^ (length l + 1) ≡ 2 ^ length l * 2 = ap (λ (k : ℕ). 2 ^ k) (add-one (length l)) ∙ pow-suc 2 (length l) in
    let q : a % 2 * 2 ^ (length l + 1) ≡ a % 2 * 2 ^ length l * 2 =
    ap (λ (x : ℕ). a % 2 * x) p ∙ sym (mul_assoc (a % 2) (2 ^ length l) 2) in
    omega arith)

-- ---- the bits of a number

pub length_bits : (w n : ℕ) → length (bits_of w n) ≡ w
unfolding bits_of
length_bits zero n = refl
length_bits (suc w) n = ap suc (length_bits w n)

pub bits_are : (w n : ℕ) → IsBits (bits_of w n)
unfolding bits_of
bits_are zero n = no_bits
bits_are (suc w) n = more_bits (omega arith) (bits_are w n)

-- the lowest bit stands last
pub bits_snoc : (w n : ℕ) → bits_of (suc w) n ≡ bits_of w (n / 2) ++ (n % 2 ∷ [])
unfolding bits_of
bits_snoc zero n = ap (λ (x : ℕ). x % 2 ∷ []) (div-one n)
bits_snoc (suc w) n =
    ap₂ (λ (x : ℕ) (l : List ℕ). x % 2 ∷ l)
    (ap (λ (k : ℕ). n / 2 ^ k) (let e : suc w ≡ 1 + w = omega arith in e) ∙ sym (shr-shr n 1 w)) (bits_snoc w n)

-- the number of the w low bits of n
pub value_bits : (w n : ℕ) → value_of (bits_of w n) ≡ n % 2 ^ w
unfolding bits_of value_of
value_bits zero n = sym (mod-one n)
value_bits (suc w) n =
    ap₂ (λ (x y : ℕ). x + y)
    (ap₂ (λ (x k : ℕ). x * 2 ^ k) (mod-mod (n / 2 ^ w) 2) (length_bits w n)) (value_bits w n)
    ∙ sym (mod-pow-add n 1 w) ∙ ap (λ (k : ℕ). n % 2 ^ k) (let e : 1 + w ≡ suc w = omega arith in e)

-- a first bit above the others
pub bits_cons : (w b n : ℕ) → n < 2 ^ w → bits_of (suc w) (b * 2 ^ w + n) ≡ b % 2 ∷ bits_of w n
unfolding bits_of
bits_cons zero b n h = ap (λ (x : ℕ). x % 2 ∷ []) (div-one (b * 1 + n) ∙ omega (arith, mul-one b, lt-one h))
bits_cons (suc w) b n h =
    bits_snoc (suc w) (b * 2 ^ suc w + n)
    ∙ ap₂ (λ (x y : ℕ). bits_of (suc w) x ++ (y ∷ [])) (block_half b w n) (block_odd b w n)
    ∙ ap (λ (l : List ℕ). l ++ (n % 2 ∷ [])) (bits_cons w b (n / 2) (omega (arith, pow-suc 2 w)))
    ∙ ap (λ (l : List ℕ). b % 2 ∷ l) (sym (bits_snoc w n))

-- bits above the w lowest do not count
pub bits_mod : (w n : ℕ) → bits_of w (n % 2 ^ w) ≡ bits_of w n
unfolding bits_of
bits_mod w n =
    sym (ap (drop 1) (ap (bits_of (suc w)) (sym (split n w)) ∙ bits_cons w (n / 2 ^ w) (n % 2 ^ w) (mod-lt n (pow_pos w))))

-- ---- the first byte that is no bit

-- there is none exactly where all are bits
pub none_not_bit : (l : List ℕ) → first_not_bit l ≡ length l → IsBits l
unfolding first_not_bit
none_not_bit [] e = no_bits
none_not_bit (b ∷ l) e = go (ltb b 2) refl e (none_not_bit l)
  where
    go : (t : Bool) → ltb b 2 ≡ t → cond t (suc (first_not_bit l)) 0 ≡ suc (length l) → (first_not_bit l ≡ length l → IsBits l) → IsBits (b ∷ l)
    go true p e ih = more_bits (ltb-true b 2 p) (ih (suc_inj e))
    go false p e ih = absurd (omega arith)

pub bits_none : (l : List ℕ) → IsBits l → first_not_bit l ≡ length l
unfolding first_not_bit
bits_none [] h = refl
bits_none (b ∷ l) h =
    ap (λ (t : Bool). cond t (suc (first_not_bit l)) 0) (lt-ltb b 2 (first_is_bit h)) ∙ ap suc (bits_none l (other_bits h))

pub not_bit_le : (l : List ℕ) → first_not_bit l ≤ length l
unfolding first_not_bit
not_bit_le [] = omega arith
not_bit_le (b ∷ l) = go (ltb b 2) (not_bit_le l)
  where
    go : (t : Bool) → first_not_bit l ≤ length l → cond t (suc (first_not_bit l)) 0 ≤ suc (length l)
    go true h = omega arith
    go false h = omega arith
