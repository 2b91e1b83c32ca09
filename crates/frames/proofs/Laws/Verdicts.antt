-- Frames and the subframes alone: each is done, or something is due, and what is due is refused.
-- Assumes nothing.
use Rattle.std.specs.Prelude.{◌≡◌, List, ◌≢◌, ℕ}
use Rattle.std.proofs.Math.Path.{ap, ap₂}
use Rattle.std.proofs.Common.{◌∙◌, arith}
use Rattle.words.specs.Refusal.{TIME, refused_at, in_turn, Answer, Done, answer_of}
use Rattle.words.specs.Time.{time_read}
use Rattle.tables.specs.declared.matrix.Subframe.{Subframe}
use Rattle.tables.specs.declared.matrix.Subframe.TheVariants.{Two, Three}
use Rattle.frames.specs.Frame.{time_in, subframe_in}
use Rattle.frames.specs.Read.{subframe_answer, frame_judged, frame_answer}
use Rattle.frames.specs.Due as Rules
use Rattle.frames.specs.Due.{AreSymbols, HasTime, SubframeDue, FrameDue, AloneDue}
use Rattle.frames.specs.Laws.Due.{Verdict, fine, due, LentView, lent_due, lent_fine, lent_view, lent_due_refused, lent_some, subframe_some}
use Rattle.frames.proofs.Laws.Due.{subframe_due_refused, subframe_verdict, good_done, done_good}
use Rattle.frames.specs.Laws.Reading.{lent_on}
use Rattle.frames.specs.Laws.Verdicts.{TimeView, none_within, one_within, time_view, time_answer_lem, no_time_answer}

-- ---- a subframe alone

module _ (s : Subframe) (f : List ℕ) where
  pub alone_due_refused : (n p : ℕ) → AloneDue s f n p → (frame_judged f (subframe_answer s (subframe_in s f)) ≡ refused_at n p) × (n ≢ 0)
  alone_due_refused n p (Rules.lent m q d) = (lent_due_refused f m q d (subframe_answer s (subframe_in s f)), lent_some f m q d)
  alone_due_refused n p (Rules.own m q are d) = (
    lent_on f are.long are.bits (subframe_answer s (subframe_in s f)) ∙ subframe_due_refused s f are m q d,
    subframe_some s f m q d,
  )

  pub alone_verdict : Verdict (frame_judged f (subframe_answer s (subframe_in s f))) (AloneDue s f)
  alone_verdict = go (lent_view f)
    where
      own : (are : AreSymbols f) → Verdict (subframe_answer s (subframe_in s f)) (SubframeDue s f)
          → Verdict (frame_judged f (subframe_answer s (subframe_in s f))) (AloneDue s f)
      own are (fine e) = fine (lent_on f are.long are.bits (subframe_answer s (subframe_in s f)) ∙ e)
      own are (due n p d) = due n p (Rules.own n p are d)

      go : LentView f → Verdict (frame_judged f (subframe_answer s (subframe_in s f))) (AloneDue s f)
      go (lent_due n p d) = due n p (Rules.lent n p d)
      go (lent_fine are) = own are (subframe_verdict s f are)

-- ---- a whole frame

module _ (f : List ℕ) where
  rest : Answer
  rest = in_turn (subframe_answer Two (subframe_in Two f)) (subframe_answer Three (subframe_in Three f))

  whole : AreSymbols f → frame_answer f ≡ in_turn (answer_of (time_read (time_in f))) rest
  unfolding rest
  whole are = lent_on f are.long are.bits (in_turn (answer_of (time_read (time_in f))) rest)

  timed : AreSymbols f → HasTime f → frame_answer f ≡ rest
  timed are h = whole are ∙ ap (λ (a : Answer). in_turn a rest) (time_answer_lem f are h)

  pub frame_due_refused : (n p : ℕ) → FrameDue f n p → (frame_answer f ≡ refused_at n p) × (n ≢ 0)
  unfolding rest
  frame_due_refused n p (Rules.lent m q d) =
      (lent_due_refused f m q d (in_turn (answer_of (time_read (time_in f))) rest), lent_some f m q d)
  frame_due_refused n p (Rules.time are far) =
      (whole are ∙ ap (λ (a : Answer). in_turn a rest) (no_time_answer f are far), λ e. omega arith)
  frame_due_refused n p (Rules.two m q are h d) = (
    timed are h ∙ ap (λ (a : Answer). in_turn a (subframe_answer Three (subframe_in Three f))) (subframe_due_refused Two f are m q d),
    subframe_some Two f m q d,
  )
  frame_due_refused n p (Rules.three m q are h good d) = (
    timed are h ∙ ap₂ in_turn (good_done Two f are good) (subframe_due_refused Three f are m q d),
    subframe_some Three f m q d,
  )

  both_fine : subframe_answer Two (subframe_in Two f) ≡ Done → subframe_answer Three (subframe_in Three f) ≡ Done → rest ≡ Done
  unfolding rest
  both_fine a b = ap₂ in_turn a b

  pub frame_verdict : Verdict (frame_answer f) (FrameDue f)
  frame_verdict = go (lent_view f)
    where
      by_three : (are : AreSymbols f) → HasTime f → subframe_answer Two (subframe_in Two f) ≡ Done
          → Verdict (subframe_answer Three (subframe_in Three f)) (SubframeDue Three f) → Verdict (frame_answer f) (FrameDue f)
      by_three are h two (fine e) = fine (timed are h ∙ both_fine two e)
      by_three are h two (due n p d) = due n p (Rules.three n p are h (done_good Two f are two) d)

      by_two : (are : AreSymbols f) → HasTime f → Verdict (subframe_answer Two (subframe_in Two f)) (SubframeDue Two f)
          → Verdict (frame_answer f) (FrameDue f)
      by_two are h (fine e) = by_three are h e (subframe_verdict Three f are)
      by_two are h (due n p d) = due n p (Rules.two n p are h d)

      by_time : AreSymbols f → TimeView f → Verdict (frame_answer f) (FrameDue f)
      by_time are (none_within far r) = due TIME 0 (Rules.time are far)
      by_time are (one_within h e) = by_two are h (subframe_verdict Two f are)

      go : LentView f → Verdict (frame_answer f) (FrameDue f)
      go (lent_due n p d) = due n p (Rules.lent n p d)
      go (lent_fine are) = by_time are (time_view f are)
