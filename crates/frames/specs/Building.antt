-- THEOREMS: demand 2, the builder. Which contents are built, which are refused, with which number, where; and what is then in the lent
-- bytes.
-- Assumes nothing.
use Rattle.std.specs.Prelude.{◌≡◌, List, ◌↔◌, ℕ, length}
use Rattle.std.proofs.Common.{ap}
use Rattle.words.specs.Refusal.{left_by, Answer, Done}
use Rattle.words.specs.Unchanged.{Refuses, refused_by_answer}
use Rattle.frames.specs.Frame.{Contents, GoodContents, FRAME, IsFrame, frame_of}
use Rattle.frames.specs.Build.{build_answer, build_bytes}
use Rattle.frames.specs.Built.{built_right}
use Rattle.frames.specs.Due.{RefusesWith, BuildDue}
use Rattle.frames.specs.Laws.Building.{good_done, done_good, build_due_refused, build_verdict}
use Rattle.frames.specs.Laws.Due.{refused_by}

-- Contents are built exactly if they are good and 1800 bytes are lent.
pub build_exactly : (c : Contents) (out : List ℕ) → (build_answer c out ≡ Done) ↔ (GoodContents c × (length out ≡ FRAME))
build_exactly c out = (done_good c out, λ h. good_done c out h.0 h.1)

-- What is then in the lent bytes is the one frame of the contents.
pub build_frame : (c : Contents) (out : List ℕ) → build_answer c out ≡ Done → (build_bytes c out ≡ frame_of c) × IsFrame c (build_bytes c out)
build_frame c out e =
    let is : build_bytes c out ≡ frame_of c = ap (λ (a : Answer). left_by a (frame_of c) out) e in
    (is, rw is (built_right c ((build_exactly c out).0 e).0))

-- Building refuses with number n at p exactly where that is due.
pub build_refused_exactly : (c : Contents) (out : List ℕ) (n p : ℕ) → RefusesWith (build_answer c out) n p ↔ BuildDue c out n p
build_refused_exactly c out n p = refused_by (build_answer c out) (BuildDue c out) (build_due_refused c out) (build_verdict c out) n p

-- Where building is refused, the lent bytes are as they were.
pub build_unchanged : (c : Contents) (out : List ℕ) → Refuses (build_answer c out) → build_bytes c out ≡ out
build_unchanged c out h = refused_by_answer (build_answer c out) (frame_of c) out h
