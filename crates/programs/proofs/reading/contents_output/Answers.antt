-- `programs::reading::contents_output` meets its contract: the sheet of good contents has at most 800 bytes, so all of it has room.
-- Assumes nothing.
use Rattle.std.proofs.Common.{List, ℕ, ℤ, sym, subst, arith}
use Rattle.fields.specs.Counts.{AllInRange}
use Rattle.frames.specs.Build.{contents_of}
use Rattle.sheets.specs.List.{sheet_fields}
use Rattle.sheets.specs.Number.{decimal}
use Rattle.sheets.specs.Write.{sheet_text}
use Rattle.sheets.specs.Carried.{contents_numbers}
use Rattle.programs.specs.Reading.{contents_text}
use Rattle.programs.specs.Laws.Output.{Adds, line_added, output_is}
use Rattle.programs.proofs.reading.Contents.{contents_added}
use Rattle.programs.proofs.reading.contents_output.Goals as goal

pub put_sheet-requires-clause-range : goal.put_sheet-requires-clause-range
put_sheet-requires-clause-range c =
    let frame = c.args.frame in
    subst (λ (zs : List ℤ). AllInRange sheet_fields zs) (sym c.numbers_of-numbers.ensures)
    (contents_numbers (contents_of frame.toi frame.counts frame.page) c.requires.1)

pub returns : goal.returns
returns c =
    let frame = c.args.frame in
    let contents = contents_of frame.toi frame.counts frame.page in
    let fresh = c.new-output in
    let page = c.put_line.new.self in
    let output = c.put_sheet.new.self in
    let sheet = subst (λ (zs : List ℤ). Adds page (sheet_text zs) output) c.numbers_of-numbers.ensures
    (c.put_sheet.ensures.size, c.put_sheet.ensures.bytes) in
    let counted = subst (λ (n : ℕ). Adds c.put.new.self (decimal n) c.put_number.new.self) c.from.ensures
    (c.put_number.ensures.size, c.put_number.ensures.bytes) in
    let added = contents_added contents frame.corrected fresh.result c.put.new.self c.put_number.new.self c.put-2.new.self page output
    (c.put.ensures.size, c.put.ensures.bytes) counted
    (c.put-2.ensures.size, c.put-2.ensures.bytes)
    (line_added c.put-2.new.self frame.page page c.put_line.ensures.size c.put_line.ensures.bytes) sheet in
    output_is (contents_text contents frame.corrected) fresh.result output fresh.ensures.size fresh.ensures.bytes added (omega arith)
