-- A number is one floating number of a format: two that fit and have the same sign and size are equal, since `to_bits` reads only these.
-- Assumes nothing.
use Rattle.std.specs.Prelude.{◌≡◌, ℕ, ◌+◌, ◌-◌, ◌*◌, ◌/◌, ◌^◌, ◌<◌, Bool, cond, T, from_bits, Float}
use Rattle.std.proofs.Common.{sym, ap, ◌∙◌, mul_right_comm}
use Rattle.std.specs.Float.{nan, inf, fin, Format}
use Rattle.std.specs.Float.Ieee.{prec, low, hid, top, up, down, size, fits, to_bits}
use Rattle.std.specs.Float.Ieee.Exact.{HasValue}
use Rattle.std.specs.Float.Ieee.Fits.{down_pos}
use Rattle.std.specs.Float.Ieee.Nearest.{div_same}
use Rattle.std.specs.Float.Ieee.Bits.{of_bits-to_bits}

-- the bits of a finite value, by its sign and its size in units of the format's smallest value
unit_bits : Format → Bool → ℕ → ℕ
unit_bits f s n = cond s (top f) 0 + (size n - prec f) * hid f + n / 2 ^ (size n - prec f)

bits_are : (f : Format) (x : Float) (s : Bool) (a c : ℕ) → 0 < c → HasValue x s a c → to_bits f x ≡ unit_bits f s (a * 2 ^ low f / c)
unfolding to_bits unit_bits
bits_are f nan s a c C v = absurd v
bits_are f (inf t) s a c C v = absurd v
bits_are f (fin t m e) s a c C v =
    ap (λ (b : Bool). unit_bits f b (m * up e * 2 ^ low f / down e)) v.0
    ∙ ap (unit_bits f s)
    (div_same (m * up e * 2 ^ low f) (down e) (a * 2 ^ low f) c (down_pos e) C
    (mul_right_comm (m * up e) (2 ^ low f) c ∙ ap (λ (n : ℕ). n * 2 ^ low f) v.1 ∙ mul_right_comm a (down e) (2 ^ low f)))

-- two floating numbers that fit and have the same bits are the same
pub same_bits : (f : Format) (x y : Float) → T (fits f x) → T (fits f y) → to_bits f x ≡ to_bits f y → x ≡ y
same_bits f x y p q e = sym (of_bits-to_bits f x p) ∙ ap (from_bits f) e ∙ of_bits-to_bits f y q

-- and so are two that have the same value
pub one_value : (f : Format) (x y : Float) (s : Bool) (a c : ℕ) → 0 < c → T (fits f x) → T (fits f y) → HasValue x s a c
    → HasValue y s a c → x ≡ y
one_value f x y s a c C p q v w = same_bits f x y p q (bits_are f x s a c C v ∙ sym (bits_are f y s a c C w))
