-- The symbols of a frame behind its time, taken apart.
-- Assumes nothing.
use mathlib.Core.Path.{◌≡◌, ap, ◌∙◌}
use mathlib.Core.List.{List}
use Prim.Native.Nat.{ℕ, ◌-◌}
use native.Mathlib.Omega.{arith}
use lib.ListN.{length, take, drop, length-drop}
use Rattle.words.specs.Bits.{IsBits}
use Rattle.words.specs.Refusal.{Done}
use Rattle.words.specs.Laws.Digits.{bits_drop}
use Rattle.tables.specs.declared.matrix.Subframe.TheVariants.{Two, Three}
use Rattle.parity.specs.InOrder.{deinterleave_done}
use Rattle.parity.specs.Order.{SYMBOLS_2, SYMBOLS_3, deinterleave_answer, deinterleave_block2, deinterleave_block3}
use Rattle.parity.specs.Laws.Parts.{rest_part}
use Rattle.frames.specs.Frame.{FRAME, TIME_SYMBOLS, ordered_in, subframe_in}

module _ (f : List ℕ) (long : length f ≡ FRAME) (bits : IsBits f) where
  symbols : List ℕ
  symbols = take (length f - TIME_SYMBOLS) (ordered_in f)

  symbols_are : symbols ≡ ordered_in f
  unfolding symbols
  symbols_are = rest_part TIME_SYMBOLS f

  apart : (old2 old3 : List ℕ) → length old2 ≡ SYMBOLS_2 → length old3 ≡ SYMBOLS_3
      → (deinterleave_answer (ordered_in f) old2 old3 ≡ Done)
      × (deinterleave_block2 (ordered_in f) old2 old3 ≡ subframe_in Two f) × (deinterleave_block3 (ordered_in f) old2 old3 ≡ subframe_in Three f)
  apart old2 old3 two three =
      deinterleave_done (ordered_in f) old2 old3
      (record { two = two; three = three; both = length-drop TIME_SYMBOLS f ∙ omega arith }) (bits_drop TIME_SYMBOLS f bits)

  pub both_taken : (old2 old3 : List ℕ) → length old2 ≡ SYMBOLS_2 → length old3 ≡ SYMBOLS_3
      → deinterleave_answer (take (length f - TIME_SYMBOLS) (drop TIME_SYMBOLS f)) old2 old3 ≡ Done
  unfolding symbols
  both_taken old2 old3 two three = ap (λ (l : List ℕ). deinterleave_answer l old2 old3) symbols_are ∙ (apart old2 old3 two three).0

  pub first_taken : (old2 old3 : List ℕ) → length old2 ≡ SYMBOLS_2 → length old3 ≡ SYMBOLS_3
      → deinterleave_block2 (take (length f - TIME_SYMBOLS) (drop TIME_SYMBOLS f)) old2 old3 ≡ subframe_in Two f
  unfolding symbols
  first_taken old2 old3 two three = ap (λ (l : List ℕ). deinterleave_block2 l old2 old3) symbols_are ∙ (apart old2 old3 two three).1

  pub second_taken : (old2 old3 : List ℕ) → length old2 ≡ SYMBOLS_2 → length old3 ≡ SYMBOLS_3
      → deinterleave_block3 (take (length f - TIME_SYMBOLS) (drop TIME_SYMBOLS f)) old2 old3 ≡ subframe_in Three f
  unfolding symbols
  second_taken old2 old3 two three = ap (λ (l : List ℕ). deinterleave_block3 l old2 old3) symbols_are ∙ (apart old2 old3 two three).2
