-- A block with its check bits and its parity put.
-- Assumes nothing.
use mathlib.Core.Path.{◌≡◌, sym, ap, ◌∙◌, subst}
use mathlib.Core.Bool.{Bool, true}
use mathlib.Core.List.{List, ◌++◌}
use Prim.Native.Nat.{ℕ, ◌+◌, ◌-◌}
use native.Mathlib.Omega.{arith}
use lib.ListN.{length, take, drop}
use lib.Seq.{take_at, take-take, length-take-le, length_front}
use lib.Dec.{eqb}
use mathlib.Core.Path.{refl}
use borrow.Author.Tests.{le-leb, eq-eqb}
use Rattle.words.specs.Bits.{IsBits, first_not_bit}
use Rattle.words.specs.Crc.{block_of, check_bytes}
use Rattle.words.specs.Refusal.{left_if, Done}
use Rattle.words.specs.Laws.Digits.{bits_none}
use Rattle.tables.specs.Matrix.{matrix_of}
use Rattle.tables.specs.declared.matrix.Subframe.{Subframe}
use Rattle.parity.specs.Equations.{is_block, data_of}
use Rattle.parity.specs.Fill.{with_parity, fill_answer, fill_bytes}
use Rattle.frames.specs.Frame.{bits_before, subframe_of}
use Rattle.frames.specs.Laws.Blocks.{check_fits, block_are}

-- x is a block whose first symbols are bits, and d its data symbols, n of them, with the check bits put
module _
    (s : Subframe)
    (x d : List ℕ)
    (n : ℕ)
    (long : length x ≡ (matrix_of s).equations + (matrix_of s).equations)
    (are : IsBits (take (bits_before s) x))
    (same : n ≡ (matrix_of s).equations)
    (kept : length d ≡ length (take n x))
    (put : d ≡ check_bytes (take n x)) where
  part_length : length (take n x) ≡ n
  part_length = length-take-le n x (omega arith)

  checked : d ≡ block_of (take (bits_before s) x)
  checked =
      let l = take n x in
      let before : length l - 24 ≡ bits_before s = omega (arith, part_length) in
      put
      ∙ ap (λ (t : Bool). left_if t (block_of (take (length l - 24) l)) l) (le-leb 24 (length l) (omega (arith, part_length, check_fits s)))
      ∙ ap block_of (ap (λ (k : ℕ). take k l) before ∙ take-take (bits_before s) n x (omega (arith, check_fits s)))

  checked_bits : IsBits d
  checked_bits =
      subst IsBits (sym checked)
      (block_are s (take (bits_before s) x) (length-take-le (bits_before s) x (omega (arith, check_fits s))) are)

  data_long : length d ≡ (matrix_of s).equations
  data_long = kept ∙ part_length ∙ same

  data_are : data_of (matrix_of s) (d ++ drop n x) ≡ d
  data_are = take_at d (drop n x) (matrix_of s).equations data_long

  fits : is_block (matrix_of s) (length (d ++ drop n x)) ≡ true
  fits = eq-eqb (length (d ++ drop n x)) ((matrix_of s).equations + (matrix_of s).equations) (length_front x d n kept ∙ long)

  are_bits : eqb (first_not_bit (data_of (matrix_of s) (d ++ drop n x))) (matrix_of s).equations ≡ true
  are_bits =
      eq-eqb (first_not_bit (data_of (matrix_of s) (d ++ drop n x))) (matrix_of s).equations
      (ap first_not_bit data_are ∙ bits_none d checked_bits ∙ data_long)

  -- so the parity can be put
  pub filled : fill_answer s (d ++ drop n x) ≡ Done
  filled = rw (fits, are_bits) refl

  pub completed : (y : List ℕ) → y ≡ fill_bytes s (d ++ drop n x) → y ≡ subframe_of s (take (bits_before s) x)
  unfolding subframe_of
  completed y e =
      e
      ∙ rw (fits, are_bits) (ap (with_parity (matrix_of s)) (data_are ∙ checked))
