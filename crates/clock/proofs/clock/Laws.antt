-- What the code's way from a floating number to its count finds: the integer that a term times 2^k is lies where it can be cut to an i64, and
-- is cut to the count; so each way out tells the count, or that there is none.
-- Assumes nothing.
use Rattle.std.proofs.Common.{◌≡◌, ℕ, ◌+◌, ◌-◌, ◌*◌, ◌^◌, ◌<◌, ◌≤◌, Bool, true, false, not, ◌||◌, T, ℤ, pos, negsuc, nat_abs, sym, ap, ◌∙◌, subst, true≢false, mul-lt-mul_of_pos_right, arith, le→leb, lt→ltb, pow_pos, pow_mono, None, Some}
use lib.Ieee.{Float, nan, inf, fin, binary64, up, down, mul, of_int, to_signed, in_float, le, lt, eq, fits, is_nan, to_bits}
use lib.Ieee.Exact.{HasValue}
use lib.Ieee.Fits.{down_pos}
use lib.Ieee.Back.{positive_back, negative_back}
use Rattle.fields.specs.Counts.{in_range}
use Rattle.clock.specs.Clock.{negative, term_of, count_in, signed_field}
use Rattle.clock.specs.Laws.OneValue.{same_bits}
use Rattle.clock.specs.Laws.Terms.{term_fits, range_53, term_back, no_count}
use Rattle.clock.specs.declared.clock.Term.{Term}
use Rattle.clock.proofs.clock.Powers.{power, int_exact, up_steps}

-- ---- signed fields

-- a signed field of at most 53 bits is not too wide
pub narrow : (w : ℕ) → 0 < w → w ≤ 53 → (signed_field w).most < 2 ^ 52
narrow w P h = omega (arith, pow_pos (w - 1), pow_mono {i = w - 1} {j = 52} (omega arith))

-- ---- where a float can be cut to an i64

-- an integer of at most 63 digits lies between -2 ^ 63 and 2 ^ 63
within : (x : Float) (s : Bool) (n : ℕ) → HasValue x s n 1 → n < 2 ^ 63 → T (lt (fin true 1 (pos 63)) x) × T (lt x (fin false 1 (pos 63)))
unfolding lt
within nan s n v h = absurd v
within (inf t) s n v h = absurd v
within (fin t m e) s n v h = go t
  where
    Q : m * up e * 1 < 9223372036854775808 * down e
    Q = subst (λ (a : ℕ). a < 9223372036854775808 * down e) (sym v.1) (mul-lt-mul_of_pos_right h (down_pos e))

    go : (b : Bool) → T (lt (fin true 1 (pos 63)) (fin b m e)) × T (lt (fin b m e) (fin false 1 (pos 63)))
    go true = (lt→ltb (m * up e * 1) (9223372036854775808 * down e) Q, lt→ltb 0 (m * up e * 1 + 9223372036854775808 * down e) (omega (arith, Q)))
    go false = (lt→ltb 0 (9223372036854775808 * down e + m * up e * 1) (omega (arith, Q)), lt→ltb (m * up e * 1) (9223372036854775808 * down e) Q)

or_l : (a b : Bool) → T a → T (a || b)
or_l true b t = tt
or_l false b t = absurd t

int_within : (z : ℤ) → nat_abs z < 2 ^ 53 → T (le (fin true 1 (pos 63)) (of_int binary64 z)) × T (lt (of_int binary64 z) (fin false 1 (pos 63)))
unfolding le
int_within z N =
    let x = of_int binary64 z in
    let n : nat_abs z < 2 ^ 63 = omega arith in
    let w = within x (negative z) (nat_abs z) (int_exact z N) n in
    (or_l (lt (fin true 1 (pos 63)) x) (eq (fin true 1 (pos 63)) x) w.0, w.1)

-- and is cut to itself
int_back : (z : ℤ) → nat_abs z < 2 ^ 53 → to_signed 63 (of_int binary64 z) ≡ z
unfolding in_float
int_back (pos n) N = (positive_back binary64 63 n (le→leb n (2 ^ 53) (omega arith)) (omega arith)).1
int_back (negsuc n) N = (negative_back binary64 63 n (lt→ltb n (2 ^ 53) (omega arith)) (omega arith)).1

-- ---- what is a number

-- a product that compares is one, so x is one
pub no_nan : (a x p : Float) → T (le a (mul binary64 x p)) → T (not (is_nan x))
unfolding le lt eq mul is_nan
no_nan nan nan p t = t
no_nan (inf s) nan p t = t
no_nan (fin s m e) nan p t = t
no_nan a (inf s) p t = tt
no_nan a (fin s m e) p t = tt

-- what has a value is one
pub value_no_nan : (x : Float) (s : Bool) (a c : ℕ) → HasValue x s a c → T (not (is_nan x))
unfolding is_nan
value_no_nan nan s a c v = v
value_no_nan (inf t) s a c v = tt
value_no_nan (fin t m e) s a c v = tt

-- ---- what each way out of the code shows, of x, y = x * 2 ^ k and the i64 that y is cut to

pub record Scaled (k w : ℕ) (x y : Float) : Type 0 where
  pub step : k ≤ 1000
  pub some : 0 < w
  pub few : w ≤ 53
  pub held : T (fits binary64 x)
  pub is : y ≡ mul binary64 x (power (1023 + k))

-- the y that the code makes
pub scaled : (term : Term) {x p : Float} → T (fits binary64 x) → p ≡ power (1023 + term.step)
    → Scaled term.step term.width x (mul binary64 x p)
scaled term {x} held e =
    record { step = term.small_step; some = term.has_digits; few = term.few_digits; held = held; is = ap (mul binary64 x) e }

module _ {k w : ℕ} {x y : Float} (h : Scaled k w x y) where
  small : (signed_field w).most < 2 ^ 52
  small = narrow w h.some h.few

  -- nothing but a term has a count
  none : ((z : ℤ) → in_range (signed_field w) z ≡ true → x ≡ term_of k z → ⊥) → count_in k (signed_field w) x ≡ None
  none so = no_count k (signed_field w) x (omega (arith, h.step)) small h.held so

  digits : (z : ℤ) → in_range (signed_field w) z ≡ true → nat_abs z < 2 ^ 53
  digits z r = range_53 (signed_field w) z small r

  -- a term times 2 ^ k is its count
  at_count : (z : ℤ) → in_range (signed_field w) z ≡ true → x ≡ term_of k z → y ≡ of_int binary64 z
  at_count z r i =
      h.is ∙ ap (λ (v : Float). mul binary64 v (power (1023 + k))) i ∙ up_steps k z (digits z r) (omega (arith, h.step))

  -- which y is cut to
  cut_is : (z : ℤ) → in_range (signed_field w) z ≡ true → x ≡ term_of k z → to_signed 63 y ≡ z
  cut_is z r i = ap (to_signed 63) (at_count z r i) ∙ int_back z (digits z r)

  -- y is too low
  pub out_low : le (fin true 1 (pos 63)) y ≡ false → count_in k (signed_field w) x ≡ None
  out_low t =
      none (λ z r i. subst T (ap (le (fin true 1 (pos 63))) (sym (at_count z r i)) ∙ t) (int_within z (digits z r)).0)

  -- y is too high
  pub out_high : lt y (fin false 1 (pos 63)) ≡ false → count_in k (signed_field w) x ≡ None
  out_high t =
      none (λ z r i. subst T (ap (λ (v : Float). lt v (fin false 1 (pos 63))) (sym (at_count z r i)) ∙ t) (int_within z (digits z r)).1)

  module _ (n : ℤ) (cut : n ≡ to_signed 63 y) where
    -- the i64 is not in the field's width
    pub out_width : in_range (signed_field w) n ≡ false → count_in k (signed_field w) x ≡ None
    out_width t = none (λ z r i. true≢false (sym r ∙ ap (in_range (signed_field w)) (sym (cut ∙ cut_is z r i)) ∙ t))

    -- its term is not x
    pub out_bits : (to_bits binary64 (term_of k n) ≡ to_bits binary64 x → ⊥) → count_in k (signed_field w) x ≡ None
    out_bits t =
        none (λ z r i. t (ap (λ (v : ℤ). to_bits binary64 (term_of k v)) (cut ∙ cut_is z r i) ∙ ap (to_bits binary64) (sym i)))

  -- its term is x
  pub in_bits : (z : ℤ) → in_range (signed_field w) z ≡ true → to_bits binary64 (term_of k z) ≡ to_bits binary64 x
      → count_in k (signed_field w) x ≡ Some z
  in_bits z r t =
      ap (count_in k (signed_field w)) (sym (same_bits binary64 (term_of k z) x (term_fits k z) h.held t))
      ∙ term_back k (signed_field w) z (omega (arith, h.step)) small r
