-- The parity of any proper matrix: it meets every equation, and it is the only one that does.
-- Assumes nothing.
use Rattle.std.specs.Prelude.{◌≡◌, refl, ℕ, zero, suc, ◌+◌, ◌-◌, ◌%◌, ◌≤◌, ◌<◌, length, get_or, replicate}
use Rattle.std.proofs.Math.Path.{sym, ap}
use Rattle.std.proofs.Common.{◌∙◌, subst, length-drop, ext_get_or, length-take-le}
use mathlib.Core.List.{List, [], ◌∷◌, ◌++◌}
use native.Mathlib.Omega.{arith}
use Rattle.std.proofs.Math.ListN.{length-append}
use Rattle.std.proofs.lemmas.List.{length-replicate}
use Rattle.words.specs.Bits.{IsBits}
use Rattle.words.specs.Sums.{sums}
use Rattle.words.specs.Laws.Digits.{no_bits, more_bits, bits_append, bits_drop}
use Rattle.words.specs.Laws.Sums.{length_sums, sums_at, sums_are}
use Rattle.tables.specs.Coordinates.{Coordinate, row_sum, added, solved, symbol_at}
use Rattle.tables.specs.Matrix.{Matrix}
use Rattle.tables.specs.Rules.{product_of, phi, IsInside, IsProper}
use Rattle.tables.specs.Laws.Passes.{length_added, length_solved}
use Rattle.tables.specs.declared.matrix.Submatrix.TheVariants.{A, B}
use Rattle.parity.specs.Equations.{p2_of, Meets}
use Rattle.parity.specs.Fill.{data_sums, p1_from, p2_from, with_parity, IsCodeword}
use Rattle.parity.specs.Laws.Zeros.{zero_at, zeros_bits}
use Rattle.parity.specs.Laws.Rows.{sum_zeros, sum_linear, added_right, added_bits, solved_bits}
use Rattle.parity.specs.Laws.Substitution.{same_solution, solved_right}
use Rattle.parity.specs.Laws.Parts.{upper_of, lower_of, data_is, parts_meet, upper_met, lower_met, put_together}

-- a p1 of 0 adds nothing
pub zero_adds_nothing : (m : List Coordinate) (r : ℕ) → row_sum m (0 ∷ []) r ≡ 0
zero_adds_nothing m r = sum_zeros m (0 ∷ []) r (zero_at 1)

-- ---- products

pub product_right : (n c : ℕ) (m : List Coordinate) → IsInside n c m → (s : List ℕ) (r : ℕ) → 1 ≤ r → r ≤ n
    → symbol_at (product_of n m s) r % 2 ≡ row_sum m s r % 2
product_right n c m w s r lo hi =
    omega (arith, added_right n c m w s (replicate n 0) (omega (arith, length-replicate {A = ℕ} n 0)) r lo hi, zero_at n (r - 1))

length_product : (n : ℕ) (m : List Coordinate) (s : List ℕ) → length (product_of n m s) ≡ n
length_product n m s = length_added m s (replicate n 0) ∙ length-replicate n 0

module _ (M : Matrix) (g : IsProper M) where
  -- the upper equations determine p2, given the data and p1
  same_p2 : (s : List ℕ) (p q q' : List ℕ) → IsBits q → IsBits q' → length q ≡ M.equations - 1 → length q' ≡ M.equations - 1
      → ((r : ℕ) → 1 ≤ r → r ≤ M.equations - 1 → upper_of M s p q r % 2 ≡ 0)
      → ((r : ℕ) → 1 ≤ r → r ≤ M.equations - 1 → upper_of M s p q' r % 2 ≡ 0) → q ≡ q'
  same_p2 s p q q' bq bq' lq lq' up up' =
      ext_get_or 0 q q' (lq ∙ sym lq')
      (λ k h. same_solution (M.equations - 1) g.t_listed q q' bq bq' (λ k h. absurd (omega arith))
      (λ r lo hi. omega (arith, up r lo hi, up' r lo hi)) k (omega arith))

  -- T⁻¹ B: what p2 turns by when p1 does
  abbrev turn : List ℕ
  turn = solved M.t (product_of (M.equations - 1) M.b (1 ∷ []))

  length_turn : length turn ≡ M.equations - 1
  length_turn = length_solved M.t _ ∙ length_product (M.equations - 1) M.b (1 ∷ [])

  turn_rows : (r : ℕ) → 1 ≤ r → r ≤ M.equations - 1 → row_sum M.t turn r % 2 ≡ row_sum M.b (1 ∷ []) r % 2
  turn_rows r lo hi =
      solved_right (M.equations - 1) g.t_listed _ (length_product (M.equations - 1) M.b (1 ∷ [])) r lo hi
      ∙ product_right (M.equations - 1) 1 M.b (g.within B) (1 ∷ []) r lo hi

  -- the sum of the last equation turns with p1, where the upper equations are met: that is what φ = 1 says
  crossed : (s q q' : List ℕ) → IsBits q → IsBits q' → length q ≡ M.equations - 1 → length q' ≡ M.equations - 1
      → ((r : ℕ) → 1 ≤ r → r ≤ M.equations - 1 → upper_of M s (0 ∷ []) q r % 2 ≡ 0)
      → ((r : ℕ) → 1 ≤ r → r ≤ M.equations - 1 → upper_of M s (1 ∷ []) q' r % 2 ≡ 0)
      → (lower_of M s (0 ∷ []) q + lower_of M s (1 ∷ []) q') % 2 ≡ 1
  unfolding phi
  crossed s q q' bq bq' lq lq' up up' =
      omega (
        arith,
        ap (λ (l : List ℕ). row_sum M.e l 1) turned,
        linear M.e 1,
        zero_adds_nothing M.d 1,
        g.phi_one,
      )
    where
      linear : (m : List Coordinate) (r : ℕ) → row_sum m (sums q turn) r % 2 ≡ (row_sum m q r + row_sum m turn r) % 2
      linear m r = sum_linear m (sums q turn) q turn r (λ k. omega (arith, sums_at q turn (lq ∙ sym length_turn) k))

      turned : q' ≡ sums q turn
      turned =
          same_p2 s (1 ∷ []) q' (sums q turn) bq' (sums_are q turn) lq' (length_sums q turn (lq ∙ sym length_turn) ∙ lq) up'
          (λ r lo hi. omega (arith, up r lo hi, linear M.t r, turn_rows r lo hi, zero_adds_nothing M.b r))

  -- ---- the parity meets every equation

  module _ (s : List ℕ) (bs : IsBits s) (ls : length s ≡ M.equations) where
    length_data : length (data_sums M s) ≡ M.equations - 1
    unfolding data_sums
    length_data = length_product (M.equations - 1) M.a s

    data_bits : IsBits (data_sums M s)
    unfolding data_sums
    data_bits = added_bits M.a s _ bs (zeros_bits (M.equations - 1))

    -- T⁻¹ y, with y the sums of A and B, meets the upper equations
    solved_meets : (p y : List ℕ) → length y ≡ M.equations - 1
        → ((r : ℕ) → 1 ≤ r → r ≤ M.equations - 1 → symbol_at y r % 2 ≡ (symbol_at (data_sums M s) r + row_sum M.b p r) % 2)
        → (r : ℕ) → 1 ≤ r → r ≤ M.equations - 1 → upper_of M s p (solved M.t y) r % 2 ≡ 0
    unfolding data_sums
    solved_meets p y ly rows r lo hi =
        omega (
          arith,
          rows r lo hi,
          solved_right (M.equations - 1) g.t_listed y ly r lo hi,
          product_right (M.equations - 1) M.equations M.a (g.within A) s r lo hi,
        )

    length_p2 : length (p2_from M s) ≡ M.equations - 1
    unfolding p2_from
    length_p2 = length_solved M.t _ ∙ length_added M.b (p1_from M s ∷ []) (data_sums M s) ∙ length_data

    p1_bit : p1_from M s < 2
    unfolding p1_from
    p1_bit = omega arith

    p2_bits : IsBits (p2_from M s)
    unfolding p2_from
    p2_bits = solved_bits M.t _ (added_bits M.b _ _ (more_bits p1_bit no_bits) data_bits)

    p2_meets : (r : ℕ) → 1 ≤ r → r ≤ M.equations - 1 → upper_of M s (p1_from M s ∷ []) (p2_from M s) r % 2 ≡ 0
    unfolding p2_from
    p2_meets =
        solved_meets (p1_from M s ∷ []) (added M.b (p1_from M s ∷ []) (data_sums M s))
        (length_added M.b (p1_from M s ∷ []) (data_sums M s) ∙ length_data)
        (λ r lo hi. added_right (M.equations - 1) 1 M.b (g.within B) (p1_from M s ∷ []) (data_sums M s) (omega (arith, length_data)) r lo hi)

    -- p2 as it were with a p1 of 0
    abbrev q₀ : List ℕ
    q₀ = solved M.t (data_sums M s)

    q₀_meets : (r : ℕ) → 1 ≤ r → r ≤ M.equations - 1 → upper_of M s (0 ∷ []) q₀ r % 2 ≡ 0
    q₀_meets =
        solved_meets (0 ∷ []) (data_sums M s) length_data
        (λ r lo hi. omega (arith, zero_adds_nothing M.b r))

    p1_is : p1_from M s ≡ lower_of M s (0 ∷ []) q₀ % 2
    unfolding p1_from
    p1_is = omega (arith, zero_adds_nothing M.d 1)

    last_meets : lower_of M s (p1_from M s ∷ []) (p2_from M s) % 2 ≡ 0
    last_meets = go (p1_from M s) refl p1_bit
      where
        length_q₀ : length q₀ ≡ M.equations - 1
        length_q₀ = length_solved M.t (data_sums M s) ∙ length_data

        go : (p : ℕ) → p1_from M s ≡ p → p < 2 → lower_of M s (p ∷ []) (p2_from M s) % 2 ≡ 0
        go zero e h =
            rw (← same_p2 s (0 ∷ []) q₀ (p2_from M s) (solved_bits M.t _ data_bits) p2_bits length_q₀ length_p2 q₀_meets (rw e at p2_meets))
            (sym p1_is ∙ e)
        go (suc zero) e h =
            omega (
              arith,
              e,
              p1_is,
              crossed s q₀ (p2_from M s) (solved_bits M.t _ data_bits) p2_bits length_q₀ length_p2 q₀_meets (rw e at p2_meets),
            )
        go (suc (suc p)) e h = absurd (omega arith)

    pub codeword : IsCodeword M s (with_parity M s)
    unfolding with_parity
    codeword =
        record {
          long = length-append s (p1_from M s ∷ p2_from M s) ∙ omega (arith, length_p2, g.some);
          bits = bits_append s _ bs (more_bits p1_bit p2_bits);
          starts = data_is M s (p1_from M s) (p2_from M s) ls;
          meets = parts_meet M s (p1_from M s) (p2_from M s) ls p2_meets last_meets;
        }

  -- ---- and is the only one

  same_parity : (s : List ℕ) (p p' : ℕ) (q q' : List ℕ) → p < 2 → p' < 2 → IsBits q → IsBits q'
      → length q ≡ M.equations - 1 → length q' ≡ M.equations - 1
      → ((r : ℕ) → 1 ≤ r → r ≤ M.equations - 1 → upper_of M s (p ∷ []) q r % 2 ≡ 0)
      → ((r : ℕ) → 1 ≤ r → r ≤ M.equations - 1 → upper_of M s (p' ∷ []) q' r % 2 ≡ 0)
      → lower_of M s (p ∷ []) q % 2 ≡ 0 → lower_of M s (p' ∷ []) q' % 2 ≡ 0 → p ∷ q ≡ p' ∷ q'
  same_parity s zero zero q q' hp hp' bq bq' lq lq' up up' low low' =
      ap (λ (l : List ℕ). 0 ∷ l) (same_p2 s (0 ∷ []) q q' bq bq' lq lq' up up')
  same_parity s (suc zero) (suc zero) q q' hp hp' bq bq' lq lq' up up' low low' =
      ap (λ (l : List ℕ). 1 ∷ l) (same_p2 s (1 ∷ []) q q' bq bq' lq lq' up up')
  same_parity s zero (suc zero) q q' hp hp' bq bq' lq lq' up up' low low' =
      absurd (omega (arith, crossed s q q' bq bq' lq lq' up up'))
  same_parity s (suc zero) zero q q' hp hp' bq bq' lq lq' up up' low low' =
      absurd (omega (arith, crossed s q' q bq' bq lq' lq up' up))
  same_parity s (suc (suc p)) p' q q' hp hp' bq bq' lq lq' up up' low low' = absurd (omega arith)
  same_parity s zero (suc (suc p')) q q' hp hp' bq bq' lq lq' up up' low low' = absurd (omega arith)
  same_parity s (suc zero) (suc (suc p')) q q' hp hp' bq bq' lq lq' up up' low low' = absurd (omega arith)

  -- a codeword by its parts
  abbrev pub p1_at : List ℕ → ℕ
  p1_at x = get_or x M.equations 0

  pub apart : (s x : List ℕ) → IsCodeword M s x → x ≡ s ++ p1_at x ∷ p2_of M x
  apart s x c =
      put_together M x g.some c.long ∙ ap (λ (l : List ℕ). l ++ p1_at x ∷ p2_of M x) c.starts

  pub parts_long : (s x : List ℕ) → IsCodeword M s x → (length s ≡ M.equations) × (length (p2_of M x) ≡ M.equations - 1)
  parts_long s x c = (
    ap length (sym c.starts) ∙ length-take-le M.equations x (omega (arith, c.long)),
    length-drop (M.equations + 1) x ∙ omega (arith, c.long, g.some),
  )

  -- two codewords with the same data symbols are one
  pub same_codeword : (s x y : List ℕ) → IsCodeword M s x → IsCodeword M s y → x ≡ y
  same_codeword s x y cx cy =
      let ls = (parts_long s x cx).0 in
      let mx = subst (Meets M) (apart s x cx) cx.meets in
      let my = subst (Meets M) (apart s y cy) cy.meets in
      apart s x cx
      ∙ ap (λ (l : List ℕ). s ++ l)
      (same_parity s (p1_at x) (p1_at y) (p2_of M x) (p2_of M y) (cx.bits.bit M.equations) (cy.bits.bit M.equations)
      (bits_drop (M.equations + 1) x cx.bits) (bits_drop (M.equations + 1) y cy.bits)
      (parts_long s x cx).1 (parts_long s y cy).1
      (upper_met M s _ _ ls mx) (upper_met M s _ _ ls my) (lower_met M s _ _ ls g.some mx) (lower_met M s _ _ ls g.some my))
      ∙ sym (apart s y cy)
