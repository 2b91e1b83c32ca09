-- THEOREMS: demand 2, reading the time alone. Which frames it is read of, and as which time.
-- Assumes nothing.
use Rattle.std.specs.Prelude.{◌≡◌, List, ◌↔◌, ℕ}
use Rattle.std.proofs.Common.{sym, ap, ◌∙◌}
use Rattle.words.specs.Reading.{read_exactly as word_read_exactly}
use Rattle.words.specs.Time.{IsTime, time_is, time_read}
use Rattle.words.specs.Laws.Turns.{Answered, done, refused, answered, not_done}
use Rattle.frames.specs.Frame.{time_in}
use Rattle.frames.specs.Read.{frame_judged, time_alone}
use Rattle.frames.specs.Due.{AreSymbols}
use Rattle.frames.specs.Laws.Reading.{lent_on, lent_done, time_is_lem}
use Rattle.words.specs.Refusal.{Answer, Done, answer_of, in_turn}

-- The time alone is read exactly if there are 1800 symbols and a time is within nine: that time, with the number that differ.
pub time_exactly : (f : List ℕ) (toi places : ℕ) → (time_alone f ≡ time_is toi places) ↔ (AreSymbols f × IsTime (time_in f) toi places)
time_exactly f toi places = (so (answered (frame_judged f Done)), back)
  where
    so : Answered (frame_judged f Done) → time_alone f ≡ time_is toi places → AreSymbols f × IsTime (time_in f) toi places
    so (done e) r =
        let lent = lent_done f Done e in (
          record { long = lent.0; bits = lent.1 },
          ((word_read_exactly (time_in f) toi places).0 (sym (ap (λ (a : Answer). in_turn a (time_read (time_in f))) e) ∙ r)).2,
        )
    so (refused n p e) r =
        absurd (not_done n p (ap answer_of (sym (ap (λ (a : Answer). in_turn a (time_read (time_in f))) e) ∙ r)))

    back : AreSymbols f × IsTime (time_in f) toi places → time_alone f ≡ time_is toi places
    back h =
        ap (λ (a : Answer). in_turn a (time_read (time_in f))) (lent_on f h.0.long h.0.bits Done)
        ∙ time_is_lem f toi places h.0.long h.0.bits h.1
