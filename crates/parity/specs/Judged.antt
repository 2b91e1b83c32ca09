-- THEOREMS: what judging a block and filling it answer, for each of the two subframes and any bytes.
-- Assumes nothing.
use Rattle.std.specs.Prelude.{◌≡◌, refl, Bool, true, false, List, ◌≢◌, ℕ, ◌+◌, eqb, length}
use Rattle.std.proofs.Common.{◌∙◌, arith, length-take-le, eq-eqb, ne_eqb, eqb-true}
use Rattle.words.specs.Bits.{IsBits, first_not_bit}
use Rattle.words.specs.Refusal.{LENGTH, NOT_A_BIT, refused_at, done_if, number_of, judged, Done}
use Rattle.words.specs.Unchanged.{Refuses, refused_stay}
use Rattle.words.specs.Laws.Digits.{bits_none, none_not_bit}
use Rattle.tables.specs.Matrix.{matrix_of}
use Rattle.tables.specs.Published.{proper}
use Rattle.tables.specs.declared.matrix.Subframe.{Subframe}
use Rattle.tables.specs.declared.matrix.Subframe.TheVariants.{Two, Three}
use Rattle.parity.specs.Equations.{data_of, Meets, first_unmet, equation_number, is_block, met_answer}
use Rattle.parity.specs.Fill.{with_parity, IsCodeword, fill_answer, fill_bytes}
use Rattle.parity.specs.ExactlyOne.{filled_meets, only_filled, none_unmet, met_none}

numbered : (s : Subframe) → equation_number s ≡ 0 → ⊥
numbered Two e = omega arith
numbered Three e = omega arith

module _ (s : Subframe) (x : List ℕ) where
  -- A block of another length is refused 1 at 0.
  pub refused_length : length x ≢ (matrix_of s).equations + (matrix_of s).equations → met_answer s x ≡ refused_at LENGTH 0
  refused_length h = rw (ne_eqb (length x) ((matrix_of s).equations + (matrix_of s).equations) h)

  -- One with a byte that is neither 0 nor 1, 2 at the first.
  pub refused_byte : length x ≡ (matrix_of s).equations + (matrix_of s).equations → first_not_bit x ≢ length x
      → met_answer s x ≡ refused_at NOT_A_BIT (first_not_bit x)
  refused_byte e h = rw (eq-eqb (length x) _ e, ne_eqb (first_not_bit x) (length x) h)

  -- A block of bits with an equation that isn't met, 4 or 7 at the first.
  pub refused_equation : length x ≡ (matrix_of s).equations + (matrix_of s).equations → IsBits x → first_unmet (matrix_of s) x ≢ 0
      → met_answer s x ≡ refused_at (equation_number s) (first_unmet (matrix_of s) x)
  refused_equation e bits h =
      rw (eq-eqb (length x) _ e, eq-eqb (first_not_bit x) (length x) (bits_none x bits), ne_eqb (first_unmet (matrix_of s) x) 0 h)

  -- A block of bits that meets every equation is not refused.
  pub met_done : length x ≡ (matrix_of s).equations + (matrix_of s).equations → IsBits x → Meets (matrix_of s) x → met_answer s x ≡ Done
  met_done e bits m =
      rw (
        eq-eqb (length x) _ e,
        eq-eqb (first_not_bit x) (length x) (bits_none x bits),
        eq-eqb (first_unmet (matrix_of s) x) 0 (met_none (matrix_of s) x m),
      )

  -- And nothing else is done.
  pub done_met : number_of (met_answer s x) ≡ 0
      → (length x ≡ (matrix_of s).equations + (matrix_of s).equations) × IsBits x × Meets (matrix_of s) x
  done_met h = go (is_block (matrix_of s) (length x)) (eqb (first_not_bit x) (length x)) (eqb (first_unmet (matrix_of s) x) 0) refl refl refl h
    where
      go : (long bits met : Bool) → is_block (matrix_of s) (length x) ≡ long → eqb (first_not_bit x) (length x) ≡ bits
          → eqb (first_unmet (matrix_of s) x) 0 ≡ met
          → number_of (judged long bits (first_not_bit x) (done_if met (equation_number s) (first_unmet (matrix_of s) x))) ≡ 0
          → (length x ≡ (matrix_of s).equations + (matrix_of s).equations) × IsBits x × Meets (matrix_of s) x
      go true true true e f g h =
          (eqb-true _ _ e, none_not_bit x (eqb-true _ _ f), none_unmet (matrix_of s) x (eqb-true (first_unmet (matrix_of s) x) 0 g))
      go true true false e f g h = absurd (numbered s h)
      go true false met e f g h = absurd (omega arith)
      go false bits met e f g h = absurd (omega arith)

  -- Where the length is right and the data symbols are bits, filling is done, and leaves the one block that keeps the data symbols and
  -- meets every equation.
  pub fill_done : length x ≡ (matrix_of s).equations + (matrix_of s).equations → IsBits (data_of (matrix_of s) x)
      → (fill_answer s x ≡ Done) × IsCodeword (matrix_of s) (data_of (matrix_of s) x) (fill_bytes s x)
  fill_done e bits =
      let d = data_of (matrix_of s) x in
      let ld : length d ≡ (matrix_of s).equations = length-take-le (matrix_of s).equations x (omega arith) in
      rw (eq-eqb (length x) _ e, eq-eqb (first_not_bit d) (matrix_of s).equations (bits_none d bits ∙ ld))
      (refl, filled_meets (matrix_of s) (proper s) d bits ld)

  -- Else it is refused: 1 at 0 for another length, then 2 at the first data symbol that is neither 0 nor 1.
  pub fill_refused_length : length x ≢ (matrix_of s).equations + (matrix_of s).equations → fill_answer s x ≡ refused_at LENGTH 0
  fill_refused_length h = rw (ne_eqb (length x) ((matrix_of s).equations + (matrix_of s).equations) h)

  pub fill_refused_byte : length x ≡ (matrix_of s).equations + (matrix_of s).equations
      → first_not_bit (data_of (matrix_of s) x) ≢ (matrix_of s).equations
      → fill_answer s x ≡ refused_at NOT_A_BIT (first_not_bit (data_of (matrix_of s) x))
  fill_refused_byte e h = rw (eq-eqb (length x) _ e, ne_eqb (first_not_bit (data_of (matrix_of s) x)) (matrix_of s).equations h)

  -- Where filling is refused, the bytes are as they were.
  pub fill_unchanged : Refuses (fill_answer s x) → fill_bytes s x ≡ x
  fill_unchanged h =
      let d = data_of (matrix_of s) x in
      refused_stay (is_block (matrix_of s) (length x)) (eqb (first_not_bit d) (matrix_of s).equations) (first_not_bit d) (with_parity (matrix_of s) d) x h

-- A block that is filled is not refused when it is judged.
pub filled_done : (s : Subframe) (x : List ℕ) → length x ≡ (matrix_of s).equations + (matrix_of s).equations → IsBits (data_of (matrix_of s) x)
    → met_answer s (fill_bytes s x) ≡ Done
filled_done s x e bits =
    let c = (fill_done s x e bits).1 in
    met_done s (fill_bytes s x) c.long c.bits c.meets

-- A block of bits with the data symbols of a filled one, and any other parity, is refused 4 or 7.
pub other_parity_refused : (s : Subframe) (d y : List ℕ) → IsBits d → length d ≡ (matrix_of s).equations
    → length y ≡ (matrix_of s).equations + (matrix_of s).equations → IsBits y → data_of (matrix_of s) y ≡ d → y ≢ with_parity (matrix_of s) d
    → met_answer s y ≡ refused_at (equation_number s) (first_unmet (matrix_of s) y)
other_parity_refused s d y bd ld ly by starts other =
    refused_equation s y ly by
    (λ e. other (only_filled (matrix_of s) (proper s) d y bd ld
    (record { long = ly; bits = by; starts = starts; meets = none_unmet (matrix_of s) y e })))
