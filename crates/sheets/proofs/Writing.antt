-- THEOREMS: demand 2, writing a sheet. What was written is read, and what was read is written.
-- Assumes nothing.
use Rattle.std.specs.Prelude.{◌≡◌, List, [], ◌++◌, ℕ, ◌≤◌, ℤ, length, take, drop}
use Rattle.std.proofs.Common.{ap, ap₂, ◌∙◌}
use Rattle.std.proofs.Math.Seq.{take-append_seam}
use Rattle.fields.specs.Counts.{AllInRange}
use Rattle.sheets.specs.List.{sheet_fields}
use Rattle.sheets.specs.Sheet.{sheet_is, sheet_read, before_sheet}
use Rattle.sheets.specs.Write.{sheet_text, write_answer, sheet_written, written_bytes, size_written}
use Rattle.sheets.proofs.Reading.{read_exactly, before_exactly}
use Rattle.sheets.proofs.Laws.Reading.{is_read}
use Rattle.sheets.specs.Writing.{write_exactly, write_bytes, written_right}
use Rattle.words.specs.Refusal.{Done}

-- Behind any bytes, what was written is read as its numbers, and the part before it is those bytes.
pub sheet_back : (front : List ℕ) (zs : List ℤ) → AllInRange sheet_fields zs
    → (sheet_read (front ++ sheet_text zs) ≡ sheet_is zs (length front)) × (before_sheet (front ++ sheet_text zs) ≡ front)
sheet_back front zs range = (
  is_read zs (sheet_text zs) (written_right zs range) front,
  before_exactly front (sheet_text zs) zs (written_right zs range),
)

-- Of the lent bytes, as many as were written are read as the numbers, and nothing stands before them.
pub written_read : (zs : List ℤ) (out : List ℕ) → write_answer zs out ≡ Done
    → (sheet_read (take (size_written (sheet_written zs out)) (written_bytes zs out)) ≡ sheet_is zs 0)
    × (before_sheet (take (size_written (sheet_written zs out)) (written_bytes zs out)) ≡ [])
written_read zs out e =
    let is = write_bytes zs out e in
    let sheet : take (size_written (sheet_written zs out)) (written_bytes zs out) ≡ sheet_text zs =
    ap₂ take (ap size_written is.1) is.0 ∙ take-append_seam (sheet_text zs) (drop (length (sheet_text zs)) out)
    in
    let back = sheet_back [] zs ((write_exactly zs out).0 e).0 in
    (ap sheet_read sheet ∙ back.0, ap before_sheet sheet ∙ back.1)

-- What was read is written again, wherever there is room, and reads the same.
pub read_written : (s : List ℕ) (zs : List ℤ) (n : ℕ) (out : List ℕ) → sheet_read s ≡ sheet_is zs n → length (sheet_text zs) ≤ length out
    → (write_answer zs out ≡ Done) × (sheet_read (take (size_written (sheet_written zs out)) (written_bytes zs out)) ≡ sheet_is zs 0)
read_written s zs n out e room =
    let answer = (write_exactly zs out).1 (((read_exactly s zs n).0 e).is_sheet.within_range, room) in
    (answer, (written_read zs out answer).0)
