-- THEOREMS: the way back. The bench program gives the frame back for what it printed, and the other way round.
-- Assumes nothing.
use Rattle.std.specs.Prelude.{◌≡◌, refl, List, ℕ, ◌≤◌, Ok}
use Rattle.std.proofs.Common.{ap, ◌∙◌}
use Rattle.words.specs.Sums.{differing}
use Rattle.frames.specs.Frame.{Contents, ordered_in, frame_of}
use Rattle.frames.specs.Read.{frame_is, frame_read}
use Rattle.frames.proofs.Reading.{read_exactly, read_built, built_again}
use Rattle.programs.specs.Output.{symbol_line}
use Rattle.programs.specs.Building.{IsInput, after_first, printed_frame}
use Rattle.programs.specs.Reading.{IsFrameLine, input_text, contents_text, printed_sheet}
use Rattle.programs.proofs.Bench.{frame_printed}
use Rattle.programs.specs.Laws.Texts.{input_right, contents_after}
use Rattle.programs.specs.WayBack.{sheet_printed}

reads_as : (f : List ℕ) (c : Contents) (places : ℕ) → frame_read f ≡ Ok (frame_is c places) → IsFrameLine c places (symbol_line f)
reads_as f c places e =
    let both = (read_exactly f c places).0 e in
    record { symbols = f; text = refl; good = both.0; readable = both.1 }

-- Given what was printed for a frame, without its first line, the bench program prints the frame again, but for the time symbols that were
-- corrected; their number is the one in the first line.
pub frame_back : (f : List ℕ) (c : Contents) (places : ℕ) → frame_read f ≡ Ok (frame_is c places)
    → (printed_sheet (symbol_line f) ≡ contents_text c places)
    × (printed_frame (after_first (printed_sheet (symbol_line f))) ≡ symbol_line (frame_of c))
    × (ordered_in (frame_of c) ≡ ordered_in f) × (differing f (frame_of c) ≡ places) × (places ≤ 9)
frame_back f c places e =
    let is = reads_as f c places e in
    let printed = sheet_printed c places (symbol_line f) is in
    let again = built_again f c places e in (
      printed,
      ap printed_frame (ap after_first printed ∙ contents_after c places) ∙ frame_printed c (input_text c) (input_right c is.good),
      again.0,
      again.1,
      again.2,
    )

-- What the bench program printed is read as what it was given, with the lines in the list's order, and no symbol corrected.
pub input_back : (c : Contents) (input : List ℕ) → IsInput c input → printed_sheet (printed_frame input) ≡ contents_text c 0
input_back c input is =
    ap printed_sheet (frame_printed c input is)
    ∙ sheet_printed c 0 (symbol_line (frame_of c)) (reads_as (frame_of c) c 0 (read_built c is.good))
