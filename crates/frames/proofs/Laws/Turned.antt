-- Frames with symbols turned: what is noticed.
-- Assumes nothing.
use Rattle.std.specs.Prelude.{List, ℕ}
use Rattle.std.proofs.Math.Path.{sym, ap}
use Rattle.std.proofs.Common.{◌∙◌}
use Rattle.words.specs.Refusal.{number_of}
use Rattle.words.specs.Unchanged.{Refuses}
use Rattle.tables.specs.declared.matrix.Subframe.{Subframe}
use Rattle.frames.specs.Frame.{Contents, data_in, frame_of}
use Rattle.frames.specs.Read.{subframe_answer, alone_answer}
use Rattle.frames.specs.Turned.{FrameFlags, turned, SomeTurned, NamedDamage}
use Rattle.frames.specs.Laws.Reading.{alone_is, subframe_numbered, done_is}
use Rattle.frames.specs.Laws.Blocks.{HaveBits}
use Rattle.frames.specs.Laws.Turned.{turned_judged, got, not_right}

module _ (c : Contents) (t : List ℕ) (have : HaveBits c) (flags : FrameFlags t) where
  module _ (s : Subframe) where
    pub subframe_noticed : SomeTurned s t → NamedDamage (data_in s t) → Refuses (alone_answer s (turned (frame_of c) t))
    unfolding got
    subframe_noticed some how zero_number =
        let block : List ℕ = got c t have flags s in
        not_right c t have flags s how some
        (done_is s block
        (subframe_numbered s block
        (sym (ap number_of (alone_is s (turned (frame_of c) t) ∙ turned_judged c t have flags (subframe_answer s block))) ∙ zero_number)))
