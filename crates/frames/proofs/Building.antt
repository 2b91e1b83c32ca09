-- THEOREMS: a frame that is built is read again, and the other way round.
-- Assumes nothing.
use Rattle.std.specs.Prelude.{◌≡◌, List, ℕ, length, Ok}
use Rattle.std.proofs.Common.{ap, ◌∙◌}
use Rattle.frames.specs.Frame.{Contents, FRAME}
use Rattle.frames.specs.Read.{frame_is, frame_read}
use Rattle.frames.specs.Build.{build_answer, build_bytes}
use Rattle.frames.proofs.Reading.{read_exactly, read_built}
use Rattle.frames.specs.Building.{build_exactly, build_frame}
use Rattle.words.specs.Refusal.{Done}

-- What is built is read: the same contents, and no symbol corrected.
pub built_read : (c : Contents) (out : List ℕ) → build_answer c out ≡ Done → frame_read (build_bytes c out) ≡ Ok (frame_is c 0)
built_read c out e = ap frame_read (build_frame c out e).0 ∙ read_built c ((build_exactly c out).0 e).0

-- What was read is built again into any 1800 bytes.
pub read_builds : (f : List ℕ) (c : Contents) (places : ℕ) (out : List ℕ) → frame_read f ≡ Ok (frame_is c places) → length out ≡ FRAME
    → build_answer c out ≡ Done
read_builds f c places out e long = (build_exactly c out).1 (((read_exactly f c places).0 e).0, long)
