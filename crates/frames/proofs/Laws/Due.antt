-- What is due of a subframe is what is refused of it.
-- Assumes nothing.
use Rattle.std.specs.Prelude.{◌≡◌, Bool, List, ◌⊎◌, ◌≢◌, ℕ}
use Rattle.std.proofs.Common.{sym, ap, ap₂, ◌∙◌, inl, inr, arith, eq-eqb, ne_eqb}
use Rattle.words.specs.Crc.{remainder_of, Right}
use Rattle.words.specs.Refusal.{refused_at, done_if, in_turn, Answer, Done}
use Rattle.words.specs.Laws.Turns.{not_done}
use Rattle.tables.specs.Matrix.{matrix_of}
use Rattle.tables.specs.Laws.Cases.{same_or_not}
use Rattle.tables.specs.declared.matrix.Subframe.{Subframe}
use Rattle.parity.specs.Equations.{Meets, first_unmet, equation_number, met_answer}
use Rattle.parity.specs.ExactlyOne.{none_unmet}
use Rattle.parity.specs.Judged.{refused_equation, met_done}
use Rattle.frames.specs.Frame.{subframe_in, data_in, bits_in}
use Rattle.frames.specs.Read.{check_number, check_bits_answer, ranges_answer, subframe_answer}
use Rattle.frames.specs.Due.{AreSymbols, FirstUnmetAt, field_number, SubframeDue, equation_due, check_due, field_due, SubframeGood}
use Rattle.frames.specs.Laws.Blocks.{subframe_length, subframe_bits}
use Rattle.frames.specs.Laws.Reading.{done_is, is_done_lem}
use Rattle.frames.specs.Laws.Due.{Verdict, fine, due, unmet_when, unmet_is, field_out_refused, RangeView, ranges_fine, range_out, range_view}

module _ (s : Subframe) (f : List ℕ) (are : AreSymbols f) where
  met_answer_lem : Meets (matrix_of s) (subframe_in s f) → met_answer s (subframe_in s f) ≡ Done
  met_answer_lem m = met_done s (subframe_in s f) (subframe_length s f) (subframe_bits s f are.bits) m

  unmet_answer : (p : ℕ) → FirstUnmetAt (matrix_of s) (subframe_in s f) p → met_answer s (subframe_in s f) ≡ refused_at (equation_number s) p
  unmet_answer p h =
      let is = unmet_when (matrix_of s) (subframe_in s f) p h in
      refused_equation s (subframe_in s f) (subframe_length s f) (subframe_bits s f are.bits) (λ e. omega (arith, h.first))
      ∙ ap (refused_at (equation_number s)) is

  right_answer : Right (data_in s f) → check_bits_answer s (data_in s f) ≡ Done
  right_answer r = ap (λ (t : Bool). done_if t (check_number s) 0) (eq-eqb (remainder_of (data_in s f)) 0 r)

  wrong_answer : (Right (data_in s f) → ⊥) → check_bits_answer s (data_in s f) ≡ refused_at (check_number s) 0
  wrong_answer r = ap (λ (t : Bool). done_if t (check_number s) 0) (ne_eqb (remainder_of (data_in s f)) 0 r)

  -- what is due is refused
  pub subframe_due_refused : (n p : ℕ) → SubframeDue s f n p → subframe_answer s (subframe_in s f) ≡ refused_at n p
  subframe_due_refused n p (equation_due q h) =
      ap (λ (a : Answer). in_turn a (in_turn (check_bits_answer s (data_in s f)) (ranges_answer s (bits_in s f)))) (unmet_answer q h)
  subframe_due_refused n p (check_due m r) =
      ap₂ (λ (a b : Answer). in_turn a (in_turn b (ranges_answer s (bits_in s f)))) (met_answer_lem m) (wrong_answer r)
  subframe_due_refused n p (field_due q m r h) =
      ap₂ (λ (a b : Answer). in_turn a (in_turn b (ranges_answer s (bits_in s f)))) (met_answer_lem m) (right_answer r)
      ∙ field_out_refused s (bits_in s f) q h

  -- a subframe is done, or something is due
  pub subframe_verdict : Verdict (subframe_answer s (subframe_in s f)) (SubframeDue s f)
  subframe_verdict = by_equations (same_or_not (first_unmet (matrix_of s) (subframe_in s f)) 0)
    where
      by_ranges : Meets (matrix_of s) (subframe_in s f) → Right (data_in s f) → RangeView s (bits_in s f)
          → Verdict (subframe_answer s (subframe_in s f)) (SubframeDue s f)
      by_ranges m r (ranges_fine e) =
          fine (is_done_lem s (subframe_in s f)
          (record { long = subframe_length s f; bits = subframe_bits s f are.bits; meets = m; right = r; ranges = e }))
      by_ranges m r (range_out p h) = due (field_number s) p (field_due p m r h)

      by_check : Meets (matrix_of s) (subframe_in s f) → (remainder_of (data_in s f) ≡ 0) ⊎ (remainder_of (data_in s f) ≢ 0)
          → Verdict (subframe_answer s (subframe_in s f)) (SubframeDue s f)
      by_check m (inl r) = by_ranges m r (range_view s (bits_in s f))
      by_check m (inr r) = due (check_number s) 0 (check_due m r)

      by_equations : (first_unmet (matrix_of s) (subframe_in s f) ≡ 0) ⊎ (first_unmet (matrix_of s) (subframe_in s f) ≢ 0)
          → Verdict (subframe_answer s (subframe_in s f)) (SubframeDue s f)
      by_equations (inl e) = by_check (none_unmet (matrix_of s) (subframe_in s f) e) (same_or_not (remainder_of (data_in s f)) 0)
      by_equations (inr ne) =
          due (equation_number s) (first_unmet (matrix_of s) (subframe_in s f))
          (equation_due (first_unmet (matrix_of s) (subframe_in s f)) (unmet_is (matrix_of s) (subframe_in s f) ne))

  -- one that is good is done, and the other way round
  pub good_done : SubframeGood s f → subframe_answer s (subframe_in s f) ≡ Done
  good_done g =
      ap₂ (λ (a b : Answer). in_turn a (in_turn b (ranges_answer s (bits_in s f)))) (met_answer_lem g.meets) (right_answer g.right)
      ∙ within_range (range_view s (bits_in s f))
    where
      within_range : RangeView s (bits_in s f) → ranges_answer s (bits_in s f) ≡ Done
      within_range (ranges_fine e) = e
      within_range (range_out p h) = absurd (g.within_range p h)

  pub done_good : subframe_answer s (subframe_in s f) ≡ Done → SubframeGood s f
  done_good e =
      let d = done_is s (subframe_in s f) e in
      record {
        meets = d.meets;
        right = d.right;
        within_range = λ p h. not_done (field_number s) p (sym (field_out_refused s (bits_in s f) p h) ∙ d.ranges);
      }
