-- Powers of two as floating numbers: their bits, an integer times 2^-k, which is its term, and a term times 2^k, which is its integer.
-- Assumes nothing.
use Rattle.std.proofs.Common.{◌≡◌, ℕ, zero, suc, ◌+◌, ◌-◌, ◌*◌, ◌/◌, ◌%◌, ◌^◌, ◌<◌, ◌≤◌, Bool, true, false, cond, not, T, leb, ℤ, pos, negsuc, nat_abs, sym, refl, ap, ◌∙◌, subst, lt_irrefl, mod-eq_of_lt, zero-lt-suc, mul_assoc, mul-pos, one-mul, mul-one, mul-div_cancel, arith, pow_pos, pow-add, ne_eqb}
use native.Mathlib.Nat.{mul-mul-mul_comm, mul-mod_left}
use lib.Count.{count_trailing_zeros}
use lib.Ieee.{Float, Format, nan, inf, fin, binary64, up, down, minus, unlike, round, mul, of_int, of_bits, of_fields, odd, nan_bits, is_nan}
use lib.Ieee.Digits.{minus_val}
use lib.Ieee.Exact.{HasValue}
use lib.Ieee.Fits.{down_pos}
use lib.Ieee.Back.{round_whole}
use lib.Ieee.Scale.{round_same}
use lib.Ieee.Bits.{nan_bits_is}
use borrow.Author.Tests.{lt-leb}
use Rattle.clock.specs.Clock.{negative, term_of}
use Rattle.clock.specs.Laws.Terms.{term_exact}

-- ---- products

-- the product of two values, rounded once
mul_value : (f : Format) (x y : Float) (s t : Bool) (a c b d : ℕ) → 0 < c → 0 < d → HasValue x s a c → HasValue y t b d
    → mul f x y ≡ round f (unlike s t) (a * b) (c * d)
unfolding mul
mul_value f nan y s t a c b d C D v w = absurd v
mul_value f (inf u) y s t a c b d C D v w = absurd v
mul_value f (fin u m e) nan s t a c b d C D v w = absurd w
mul_value f (fin u m e) (inf r) s t a c b d C D v w = absurd w
mul_value f (fin u m e) (fin r n g) s t a c b d C D v w =
    ap (λ (z : Bool). round f (unlike z r) (m * up e * (n * up g)) (down e * down g)) v.0
    ∙ ap (λ (z : Bool). round f (unlike s z) (m * up e * (n * up g)) (down e * down g)) w.0
    ∙ round_same f (unlike s t) (m * up e * (n * up g)) (down e * down g) (a * b) (c * d) (mul-pos (down_pos e) (down_pos g)) (mul-pos C D)
    (mul-mul-mul_comm (m * up e) (n * up g) c d
    ∙ ap (λ (z : ℕ). z * (n * up g * d)) v.1
    ∙ ap (λ (z : ℕ). a * down e * z) w.1
    ∙ mul-mul-mul_comm a (down e) b (down g))

-- an integer as a floating number
of_int_is : (z : ℤ) → of_int binary64 z ≡ round binary64 (negative z) (nat_abs z) 1
unfolding of_int
of_int_is (pos n) = refl
of_int_is (negsuc n) = refl

pub int_exact : (z : ℤ) → nat_abs z < 2 ^ 53 → HasValue (of_int binary64 z) (negative z) (nat_abs z) 1
int_exact z N =
    subst (λ (x : Float). HasValue x (negative z) (nat_abs z) 1) (sym (of_int_is z))
    (round_whole binary64 (negative z) (nat_abs z) (omega arith))

-- the power of two with the exponent bits e: 2 ^ (e + 51) / 2 ^ 1074
abbrev pub power : ℕ → Float
power e = fin false 1 (minus (e + 51) 1074)

power_is : (e : ℕ) → HasValue (power e) false (2 ^ (e + 51)) (2 ^ 1074)
power_is e = (refl, minus_val 1 (e + 51) 1074 ∙ ap (λ (n : ℕ). n * down (minus (e + 51) 1074)) (one-mul (2 ^ (e + 51))))

unlike_false : (s : Bool) → unlike s false ≡ s
unlike_false true = refl
unlike_false false = refl

-- n / c times it is n / d, where 2 ^ e / 2 ^ 1023 is c / d
scaled : (x : Float) (s : Bool) (n c d e : ℕ) → 0 < c → 0 < d → 2 ^ (e + 51) * d ≡ c * 2 ^ 1074 → HasValue x s n c
    → mul binary64 x (power e) ≡ round binary64 s n d
scaled x s n c d e C D h v =
    mul_value binary64 x (power e) s false n c (2 ^ (e + 51)) (2 ^ 1074) C (pow_pos 1074) v (power_is e)
    ∙ ap (λ (b : Bool). round binary64 b (n * 2 ^ (e + 51)) (c * 2 ^ 1074)) (unlike_false s)
    ∙ round_same binary64 s (n * 2 ^ (e + 51)) (c * 2 ^ 1074) n d (mul-pos C (pow_pos 1074)) D
    (mul_assoc n (2 ^ (e + 51)) d ∙ ap (λ (z : ℕ). n * z) h)

-- an integer times 2 ^ -k is its term
pub down_steps : (k : ℕ) (z : ℤ) → nat_abs z < 2 ^ 53 → k ≤ 1023 → mul binary64 (of_int binary64 z) (power (1023 - k)) ≡ term_of k z
unfolding term_of
down_steps k z N K =
    let e : 1023 - k + 51 + k ≡ 1074 = omega arith in
    scaled (of_int binary64 z) (negative z) (nat_abs z) 1 (2 ^ k) (1023 - k) (zero-lt-suc 0) (pow_pos k)
    (sym (pow-add 2 (1023 - k + 51) k) ∙ ap (λ (n : ℕ). 2 ^ n) e ∙ sym (one-mul (2 ^ 1074)))
    (int_exact z N)

-- a term times 2 ^ k is its integer
pub up_steps : (k : ℕ) (z : ℤ) → nat_abs z < 2 ^ 53 → k ≤ 1023 → mul binary64 (term_of k z) (power (1023 + k)) ≡ of_int binary64 z
up_steps k z N K =
    let e : 1023 + k + 51 ≡ k + 1074 = omega arith in
    let h : k ≤ 1074 = omega arith in
    scaled (term_of k z) (negative z) (nat_abs z) (2 ^ k) 1 (1023 + k) (pow_pos k) (zero-lt-suc 0)
    (mul-one (2 ^ (1023 + k + 51)) ∙ ap (λ (n : ℕ). 2 ^ n) e ∙ pow-add 2 k 1074)
    (term_exact k z N h)
    ∙ sym (of_int_is z)

-- ---- the bits of a power of two

field_is : (e : ℕ) → e < 2047 → e * 2 ^ 52 % 2 ^ 63 / 2 ^ 52 ≡ e
field_is e h =
    let b : e * 2 ^ 52 < 2 ^ 63 = omega arith in
    ap (λ (n : ℕ). n / 2 ^ 52) (mod-eq_of_lt b) ∙ mul-div_cancel e (pow_pos 52)

sign_is : (e : ℕ) → e < 2047 → leb (2 ^ 63) (e * 2 ^ 52) ≡ false
sign_is e h = lt-leb (2 ^ 63) (e * 2 ^ 52) (omega arith)

fields_are : (x : ℕ) → suc x < 2047 → of_fields binary64 false (suc x) 0 ≡ fin false 1 (minus (x + 52) 1074)
unfolding of_fields odd count_trailing_zeros
fields_are x h = ap (λ (b : Bool). cond b (inf false) (fin false 1 (minus (x + 52) 1074))) (ne_eqb (suc x) 2047 (λ q. omega arith))

pub power_bits : (e : ℕ) → 0 < e → e < 2047 → of_bits binary64 (e * 4503599627370496) ≡ power e
unfolding of_bits
power_bits zero h l = absurd (lt_irrefl 0 h)
power_bits (suc x) h l =
    let s : x + 52 ≡ suc x + 51 = omega arith in
    ap (λ (b : Bool). of_fields binary64 b (suc x * 2 ^ 52 % 2 ^ 63 / 2 ^ 52) (suc x * 2 ^ 52 % 2 ^ 52)) (sign_is (suc x) l)
    ∙ ap (λ (n : ℕ). of_fields binary64 false n (suc x * 2 ^ 52 % 2 ^ 52)) (field_is (suc x) l)
    ∙ ap (λ (n : ℕ). of_fields binary64 false (suc x) n) (mul-mod_left (suc x) (2 ^ 52))
    ∙ fields_are x l
    ∙ ap (λ (n : ℕ). fin false 1 (minus n 1074)) s

pub power_no_nan : (e : ℕ) → 0 < e → e < 2047 → T (not (nan_bits binary64 (e * 4503599627370496)))
unfolding is_nan
power_no_nan e h l =
    subst (λ (b : Bool). T (not b)) (sym (nan_bits_is binary64 (e * 4503599627370496) ∙ ap is_nan (power_bits e h l))) tt
