-- THEOREMS: demand 2, refusals. A frame is refused with number N at P exactly where document 01's table says so, in its order, and
-- nothing else is given.
-- Assumes nothing.
use Rattle.std.specs.Prelude.{◌≡◌, refl, List, ◌↔◌, ℕ, Err, Ok}
use Rattle.std.proofs.Common.{ap, ◌∙◌}
use Rattle.words.specs.Time.{time_read, corrected_read}
use Rattle.tables.specs.declared.matrix.Subframe.{Subframe}
use Rattle.tables.specs.declared.matrix.Subframe.TheVariants.{Two, Three}
use Rattle.fields.specs.Table.{fields_in}
use Rattle.fields.specs.Counts.{counts_in}
use Rattle.fields.specs.declared.table.Table.TheVariants.{Subframe2}
use Rattle.frames.specs.Frame.{Contents, time_in, bits_in}
use Rattle.frames.specs.Read.{frame_answer, contents_in, frame_read, subframe2_alone, subframe3_alone, alone_answer, frame_is}
use Rattle.frames.specs.Due.{RefusesWith, FrameDue, AloneDue}
use Rattle.frames.specs.Laws.Due.{refused_by}
use Rattle.frames.specs.Laws.Reading.{alone_is}
use Rattle.frames.proofs.Laws.Verdicts.{frame_due_refused, frame_verdict, alone_due_refused, alone_verdict}
use Rattle.words.specs.Refusal.{Answer, answer_of, given_by, refused_at}

answer_by_lem : (a : Answer) (c : Contents) (corrected : ℕ) → answer_of (given_by a (frame_is c corrected)) ≡ a
answer_by_lem (Ok _) c corrected = refl
answer_by_lem (Err r) c corrected = refl

-- Reading a frame refuses with number n at p exactly where that is due.
pub refused_exactly : (f : List ℕ) (n p : ℕ) → RefusesWith (answer_of (frame_read f)) n p ↔ FrameDue f n p
refused_exactly f n p =
    refused_by (answer_of (frame_read f)) (FrameDue f)
    (λ m q d. (answer_by_lem (frame_answer f) (contents_in f) (corrected_read (time_read (time_in f))) ∙ (frame_due_refused f m q d).0, (frame_due_refused f m q d).1))
    (rw (answer_by_lem (frame_answer f) (contents_in f) (corrected_read (time_read (time_in f)))) (frame_verdict f)) n p

-- It gives nothing else.
pub refused_only : (f : List ℕ) (n p : ℕ) → FrameDue f n p → frame_read f ≡ refused_at n p
refused_only f n p d =
    ap (λ (a : Answer). given_by a (frame_is (contents_in f) (corrected_read (time_read (time_in f))))) (frame_due_refused f n p d).0

-- Reading a subframe alone refuses with number n at p exactly where that is due, 1, 2, then only 4 5 6 or only 7 8 9.
pub alone_refused_exactly : (s : Subframe) (f : List ℕ) (n p : ℕ) → RefusesWith (alone_answer s f) n p ↔ AloneDue s f n p
alone_refused_exactly s f n p =
    refused_by (alone_answer s f) (AloneDue s f)
    (λ m q d. (alone_is s f ∙ (alone_due_refused s f m q d).0, (alone_due_refused s f m q d).1)) (rw (alone_is s f) (alone_verdict s f)) n p

pub subframe2_refused_only : (f : List ℕ) (n p : ℕ) → AloneDue Two f n p → subframe2_alone f ≡ refused_at n p
subframe2_refused_only f n p d =
    ap (λ (a : Answer). given_by a (counts_in (fields_in Subframe2) (bits_in Two f))) (alone_due_refused Two f n p d).0

pub subframe3_refused_only : (f : List ℕ) (n p : ℕ) → AloneDue Three f n p → subframe3_alone f ≡ refused_at n p
subframe3_refused_only f n p d = ap (λ (a : Answer). given_by a (bits_in Three f)) (alone_due_refused Three f n p d).0
