-- The time, alone and in a frame: it is done, or something is due, and what is due is refused.
-- Assumes nothing.
use Rattle.std.specs.Prelude.{◌≡◌, List, ◌≢◌, ℕ}
use Rattle.std.proofs.Math.Path.{ap}
use Rattle.std.proofs.Common.{◌∙◌, arith}
use Rattle.words.specs.Refusal.{TIME, refused_at, Answer, Done, answer_of, in_turn}
use Rattle.words.specs.Time.{time_read}
use Rattle.words.specs.Laws.Digits.{bits_none, bits_take}
use Rattle.words.specs.Laws.Judged.{Judged, wrong_length, wrong_byte, time_missing, a_time, judged}
use Rattle.frames.specs.Frame.{TIME_SYMBOLS, time_in}
use Rattle.frames.specs.Read.{time_alone}
use Rattle.frames.specs.Due as Rules
use Rattle.frames.specs.Due.{AreSymbols, NoTime, HasTime, TimeDue}
use Rattle.frames.specs.Laws.Due.{Verdict, fine, due, LentView, lent_due, lent_fine, lent_view, lent_due_refused, lent_some}
use Rattle.frames.specs.Laws.Reading.{lent_on, time_is_lem, time_length}

-- ---- the time

-- 1800 symbols have a time within nine, or none
pub data TimeView (f : List ℕ) : Type 0 where
  none_within : NoTime f → time_read (time_in f) ≡ refused_at TIME 0 → TimeView f
  one_within : HasTime f → answer_of (time_read (time_in f)) ≡ Done → TimeView f

pub time_view : (f : List ℕ) → AreSymbols f → TimeView f
time_view f are = go (judged (time_in f))
  where
    go : Judged (time_in f) → TimeView f
    go (wrong_length l r) = absurd (l (time_length f are.long))
    go (wrong_byte l b r) = absurd (omega (arith, bits_none (time_in f) (bits_take TIME_SYMBOLS f are.bits)))
    go (time_missing l b far r) = none_within far r
    go (a_time l b toi places t r) = one_within (record { toi = toi; places = places; within = t }) (ap answer_of r)

-- a time within nine is read
pub time_answer_lem : (f : List ℕ) → AreSymbols f → HasTime f → answer_of (time_read (time_in f)) ≡ Done
time_answer_lem f are h = ap answer_of (time_is_lem f h.toi h.places are.long are.bits h.within)

-- and where there is none, it is refused
pub no_time_answer : (f : List ℕ) → AreSymbols f → NoTime f → answer_of (time_read (time_in f)) ≡ refused_at TIME 0
no_time_answer f are far = go (time_view f are)
  where
    go : TimeView f → answer_of (time_read (time_in f)) ≡ refused_at TIME 0
    go (none_within far' r) = ap answer_of r
    go (one_within h e) = absurd (far h.toi h.places h.within)

-- ---- the time alone

module _ (f : List ℕ) where
  pub time_due_refused : (n p : ℕ) → TimeDue f n p → (time_alone f ≡ refused_at n p) × (n ≢ 0)
  time_due_refused n p (Rules.lent m q d) = (
    ap (λ (a : Answer). in_turn a (time_read (time_in f))) (lent_due_refused f m q d Done),
    lent_some f m q d,
  )
  time_due_refused n p (Rules.time are far) = (time_none (time_view f are), λ e. omega arith)
    where
      time_none : TimeView f → time_alone f ≡ refused_at TIME 0
      time_none (none_within far' r) =
          ap (λ (a : Answer). in_turn a (time_read (time_in f))) (lent_on f are.long are.bits Done) ∙ r
      time_none (one_within h e) = absurd (far h.toi h.places h.within)

  pub time_verdict : Verdict (answer_of (time_alone f)) (TimeDue f)
  time_verdict = go (lent_view f)
    where
      by_time : AreSymbols f → TimeView f → Verdict (answer_of (time_alone f)) (TimeDue f)
      by_time are (none_within far r) = due TIME 0 (Rules.time are far)
      by_time are (one_within h e) =
          fine (ap (λ (a : Answer). answer_of (in_turn a (time_read (time_in f)))) (lent_on f are.long are.bits Done) ∙ e)

      go : LentView f → Verdict (answer_of (time_alone f)) (TimeDue f)
      go (lent_due n p d) = due n p (Rules.lent n p d)
      go (lent_fine are) = by_time are (time_view f are)
