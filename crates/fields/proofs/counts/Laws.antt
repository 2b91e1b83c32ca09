-- The number of a field without a sign, taken from bits, and a number put into its place.
-- Assumes nothing.
use mathlib.Core.Path.{◌≡◌, sym, ap, ◌∙◌, refl}
use mathlib.Core.Bool.{Bool, false, cond}
use mathlib.Core.List.{List, ◌++◌}
use Prim.Native.Nat.{ℕ, ◌+◌, ◌^◌, ◌≤◌, ◌<◌}
use native.Mathlib.Nat.{min-eq_left}
use native.Mathlib.Omega.{arith}
use lib.IntN.{pos}
use lib.ListN.{length, take, drop}
use lib.Pow.{pow_mono}
use lib.Seq.{sets-eq}
use borrow.Author.Tests.{le-leb, lt-ltb}
use Rattle.words.specs.Refusal.{Done}
use Rattle.words.specs.Bits.{value_of, bits_of, signed_of, bits_at, number_bytes, number_answer}
use Rattle.words.specs.Laws.Digits.{length_bits}
use Rattle.fields.specs.Counts.{count_of}
use Rattle.fields.specs.Laws.Counts.{value_below}
use Rattle.fields.specs.declared.table.Field.{Field}

-- ---- taking

module _ (f : Field) (l : List ℕ) (at : ℕ) (few : f.width < 64) where
  part : bits_at l at f.width ≡ take f.width (drop at l)
  part = let low : f.width ≤ 64 = omega arith in ap (λ (n : ℕ). take n (drop at l)) (min-eq_left low)

  pub taken_number : f.signed ≡ false → pos (value_of (bits_at l at f.width)) ≡ count_of f (take f.width (drop at l))
  taken_number e =
      ap (λ (x : List ℕ). pos (value_of x)) part
      ∙ ap (λ (t : Bool). cond t (signed_of (take f.width (drop at l))) (pos (value_of (take f.width (drop at l))))) (sym e)

  -- it fits a number with a sign
  pub taken_small : value_of (bits_at l at f.width) < 2 ^ 63
  taken_small =
      omega (arith, ap value_of part, value_below f.width (drop at l), pow_mono {i = f.width} {j = 63} (omega arith))

-- ---- putting

-- a number that fits is put
pub number_fits : (l : List ℕ) (at w n : ℕ) → at + w ≤ length l → n < 2 ^ w → number_answer l at w n ≡ Done
number_fits l at w n h g = rw (le-leb (at + w) (length l) h, lt-ltb n (2 ^ w) g) refl

-- a number put into its place, between the bytes before and behind it
pub number_put : (l : List ℕ) (at w n : ℕ) → at + w ≤ length l → n < 2 ^ w → number_bytes l at w n ≡ take at l ++ bits_of w n ++ drop (at + w) l
number_put l at w n h g =
    rw (le-leb (at + w) (length l) h, lt-ltb n (2 ^ w) g)
    (rw (length_bits w n) at (sets-eq (bits_of w n) l at (rw (length_bits w n) h)))
