-- A count and its term, in steps of 2^-k: the term is exact, the only one, and taken back it gives its count; what gives a count is its term.
-- Assumes nothing.
use Rattle.std.specs.Prelude.{◌≡◌, ℕ, zero, suc, ◌+◌, ◌-◌, ◌*◌, ◌/◌, ◌%◌, ◌^◌, ◌<◌, ◌≤◌, Bool, true, false, cond, not, ◌&&◌, T, ℤ, pos, negsuc, ◌==◌, ◌≢◌, unsigned_abs, refl, Float, Option, None, Some}
use Rattle.std.proofs.Common.{sym, ap, ◌∙◌, subst, mul_assoc, mul-div_cancel, lt_of_lt_of_le, div-add-mod', add-zero, arith, pow-add, pow_pos, pow_mono, shl_lt, eqb-true, ne_eqb}
use Rattle.std.proofs.Math.Bool.{and-eq-true_iff}
use Rattle.std.proofs.Math.Nat.{mul-mod_left}
use Rattle.std.specs.Int.Signed.{mag, nat_abs-le}
use Rattle.std.specs.Float.{nan, inf, fin, binary64}
use Rattle.std.specs.Float.Ieee.{up, down, round, fits}
use Rattle.std.specs.Float.Ieee.Exact.{HasValue, round_exact}
use Rattle.std.specs.Float.Ieee.Fits.{round-fits, down_pos}
use Rattle.fields.specs.Counts.{in_range}
use Rattle.fields.specs.Laws.Counts.{range_most}
use Rattle.fields.specs.declared.table.Field.{Field}
use Rattle.clock.specs.Clock.{negative, Exactly, term_of, with_sign, whole_in, count_in}
use Rattle.clock.specs.Laws.OneValue.{one_value}

-- ---- a count's term

-- 2 ^ k splits at 1074
split_pow : (k : ℕ) → k ≤ 1074 → 2 ^ (1074 - k) * 2 ^ k ≡ 2 ^ 1074
split_pow k h =
    let e : 1074 - k + k ≡ 1074 = omega arith in
    sym (pow-add 2 (1074 - k) k) ∙ ap (λ (n : ℕ). 2 ^ n) e

-- a fraction over 2 ^ k with a numerator of at most 53 digits is a 64-bit floating number
steps_exact : (s : Bool) (n k : ℕ) → n < 2 ^ 53 → k ≤ 1074 → HasValue (round binary64 s n (2 ^ k)) s n (2 ^ k)
steps_exact s n k N K =
    let r : 53 + (1074 - k) ≤ 2098 = omega arith in
    round_exact binary64 s n (2 ^ k) n (1074 - k) (pow_pos k) N (lt_of_lt_of_le (shl_lt 53 (1074 - k) N) (pow_mono r))
    (ap (λ (z : ℕ). n * z) (sym (split_pow k K)) ∙ sym (mul_assoc n (2 ^ (1074 - k)) (2 ^ k)))

-- a count below 2 ^ 53 has an exact term
pub term_exact : (k : ℕ) (z : ℤ) → unsigned_abs z < 2 ^ 53 → k ≤ 1074 → Exactly k z (term_of k z)
unfolding term_of
term_exact k z N K = steps_exact (negative z) (unsigned_abs z) k N K

-- a term is a 64-bit floating number
pub term_fits : (k : ℕ) (z : ℤ) → T (fits binary64 (term_of k z))
unfolding term_of
term_fits k z = round-fits binary64 (negative z) (unsigned_abs z) (2 ^ k)

-- no other is the count times 2 ^ -k
pub only_exact : (k : ℕ) (z : ℤ) (x : Float) → unsigned_abs z < 2 ^ 53 → k ≤ 1074 → T (fits binary64 x) → Exactly k z x → x ≡ term_of k z
only_exact k z x N K f v =
    one_value binary64 x (term_of k z) (negative z) (unsigned_abs z) (2 ^ k) (pow_pos k) f (term_fits k z) v (term_exact k z N K)

-- ---- a count in a field's range

-- it has at most 53 digits, in a field that is not too wide
pub range_53 : (f : Field) (z : ℤ) → f.most < 2 ^ 52 → in_range f z ≡ true → unsigned_abs z < 2 ^ 53
range_53 f z N h =
    let small : mag z < 2 ^ 52 = omega (arith, range_most f z h) in
    omega (arith, nat_abs-le z small)

-- ---- a term taken back

-- a count of its sign and size
whole_of : (f : Field) (z : ℤ) → in_range f z ≡ true → whole_in f (negative z) 0 (unsigned_abs z) ≡ Some z
whole_of f (pos n) h = ap (λ (b : Bool). cond b (Some (pos n)) None) h
whole_of f (negsuc n) h =
    ap (λ (b : Bool). cond (not b && in_range f (negsuc n)) (Some (negsuc n)) None) (ne_eqb (suc n) 0 (λ e. omega arith))
    ∙ ap (λ (b : Bool). cond b (Some (negsuc n)) None) h

-- what is z times 2 ^ -k is z steps and no part of one
steps_of : (k : ℕ) (f : Field) (x : Float) (s : Bool) (n : ℕ) → HasValue x s n (2 ^ k) → count_in k f x ≡ whole_in f s 0 n
unfolding count_in
steps_of k f nan s n v = absurd v
steps_of k f (inf t) s n v = absurd v
steps_of k f (fin t m e) s n v =
    ap (λ (b : Bool). whole_in f b (m * up e * 2 ^ k % down e) (m * up e * 2 ^ k / down e)) v.0
    ∙ ap (λ (q : ℕ). whole_in f s (q % down e) (q / down e)) v.1
    ∙ ap (λ (q : ℕ). whole_in f s q (n * down e / down e)) (mul-mod_left n (down e))
    ∙ ap (λ (q : ℕ). whole_in f s 0 q) (mul-div_cancel n (down_pos e))

-- what is exactly a count's product gives the count
pub exact_back : (k : ℕ) (f : Field) (z : ℤ) (x : Float) → in_range f z ≡ true → Exactly k z x → count_in k f x ≡ Some z
exact_back k f z x h v = steps_of k f x (negative z) (unsigned_abs z) v ∙ whole_of f z h

-- so a term gives its count
pub term_back : (k : ℕ) (f : Field) (z : ℤ) → k ≤ 1074 → f.most < 2 ^ 52 → in_range f z ≡ true → count_in k f (term_of k z) ≡ Some z
term_back k f z K N h = exact_back k f z (term_of k z) h (term_exact k z (range_53 f z N h) K)

-- ---- what gives a count

-- the count's sign and size, and its range
record Says (f : Field) (s : Bool) (r q : ℕ) (z : ℤ) : Type 0 where
  whole : r ≡ 0
  sign : s ≡ negative z
  size : q ≡ unsigned_abs z
  fine : in_range f z ≡ true

-- a count that was picked
picked : (b : Bool) (w z : ℤ) → cond b (Some w) None ≡ Some z → (b ≡ true) × (w ≡ z)
picked true w z e = (refl, cc)
picked false w z e = let no_count : ◌≡◌ {A = ℕ} 0 1 = cc in absurd (omega arith)

sign_is : (s : Bool) (q : ℕ) → not (s && q == 0) ≡ true → s ≡ negative (with_sign s q)
sign_is false q h = refl
sign_is true zero h = let no_sign : ◌≡◌ {A = ℕ} 0 1 = cc in absurd (omega arith)
sign_is true (suc q) h = refl

size_is : (s : Bool) (q : ℕ) → q ≡ unsigned_abs (with_sign s q)
size_is false q = refl
size_is true zero = refl
size_is true (suc q) = refl

says : (f : Field) (s : Bool) (r q : ℕ) (z : ℤ) → whole_in f s r q ≡ Some z → Says f s r q z
says f s r q z e =
    let some = not (s && q == 0) in
    let fine = in_range f (with_sign s q) in
    let it = picked (r == 0 && (some && fine)) (with_sign s q) z e in
    let both = (and-eq-true_iff (r == 0) (some && fine)).0 it.0 in
    let rest = (and-eq-true_iff some fine).0 both.1 in
    subst (Says f s r q) it.1
    (record {
      whole = eqb-true r 0 both.0;
      sign = sign_is s q rest.0;
      size = size_is s q;
      fine = rest.1;
    })

-- what gives a count is exactly its product, and the count is in range
pub count_exact : (k : ℕ) (f : Field) (z : ℤ) (x : Float) → count_in k f x ≡ Some z → Exactly k z x × (in_range f z ≡ true)
unfolding count_in
count_exact k f z nan e = let no_count : ◌≡◌ {A = ℕ} 0 1 = cc in absurd (omega arith)
count_exact k f z (inf s) e = let no_count : ◌≡◌ {A = ℕ} 0 1 = cc in absurd (omega arith)
count_exact k f z (fin s m g) e =
    let a = m * up g * 2 ^ k in
    let w = says f s (a % down g) (a / down g) z e in (
      (
        w.sign,
        sym (div-add-mod' a (down g))
            ∙ ap (λ (r : ℕ). a / down g * down g + r) w.whole
            ∙ add-zero (a / down g * down g)
            ∙ ap (λ (q : ℕ). q * down g) w.size,
      ),
      w.fine,
    )

-- so it is the count's term
pub only_counts : (k : ℕ) (f : Field) (z : ℤ) (x : Float) → k ≤ 1074 → f.most < 2 ^ 52 → T (fits binary64 x) → count_in k f x ≡ Some z
    → (x ≡ term_of k z) × (in_range f z ≡ true)
only_counts k f z x K N F e =
    let w = count_exact k f z x e in (only_exact k z x (range_53 f z N w.1) K F w.0, w.1)

-- and what is the term of no count in range gives none
pub no_count : (k : ℕ) (f : Field) (x : Float) → k ≤ 1074 → f.most < 2 ^ 52 → T (fits binary64 x)
    → ((z : ℤ) → in_range f z ≡ true → x ≢ term_of k z) → count_in k f x ≡ None
no_count k f x K N F none = go (count_in k f x) refl
  where
    go : (r : Option ℤ) → count_in k f x ≡ r → count_in k f x ≡ None
    go (Some z) e = let w = only_counts k f z x K N F e in absurd (none z w.1 w.0)
    go None e = e
