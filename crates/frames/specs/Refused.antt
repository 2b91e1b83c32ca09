-- THEOREMS: demand 2, refusals of the time alone: exactly where document 01's table says so, in its order, and nothing else given.
-- Assumes nothing.
use Rattle.std.specs.Prelude.{◌≡◌, List, ◌↔◌, ℕ}
use Rattle.std.proofs.Common.{ap}
use Rattle.frames.specs.Read.{time_alone}
use Rattle.frames.specs.Due.{RefusesWith, TimeDue}
use Rattle.frames.specs.Laws.Due.{refused_by}
use Rattle.frames.specs.Laws.Verdicts.{time_due_refused, time_verdict}
use Rattle.words.specs.Refusal.{answer_of, refused_at}

-- Reading the time alone refuses with number n at p exactly where that is due, 1, 2 or 3.
pub time_refused_exactly : (f : List ℕ) (n p : ℕ) → RefusesWith (answer_of (time_alone f)) n p ↔ TimeDue f n p
time_refused_exactly f n p =
    refused_by (answer_of (time_alone f)) (TimeDue f)
    (λ m q d. (ap answer_of (time_due_refused f m q d).0, (time_due_refused f m q d).1)) (time_verdict f) n p

pub time_refused_only : (f : List ℕ) (n p : ℕ) → TimeDue f n p → time_alone f ≡ refused_at n p
time_refused_only f n p d = (time_due_refused f n p d).0
