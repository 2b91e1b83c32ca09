-- THEOREMS: what a program hands over to be printed is the text.
-- Assumes nothing.
use Rattle.std.specs.Prelude.{◌≡◌, List, ℕ, length, take, drop, replicate}
use Rattle.std.proofs.Math.Seq.{take-append_seam}
use Rattle.programs.specs.Output.{OUTPUT_BYTES, output_of}

-- ---- what is handed to the program to print

-- The bytes up to the size are the text, for any text.
pub output_text : (text : List ℕ) → take (output_of text).size (output_of text).bytes ≡ text
unfolding output_of
output_text text = take-append_seam text (drop (length text) (replicate OUTPUT_BYTES 0))
