-- `programs::building::frame_output` meets its contract: 1800 characters and a newline have room. Assumes nothing.
use Rattle.std.proofs.Common.{arith}
use Rattle.programs.specs.Output.{symbol_line}
use Rattle.programs.specs.Laws.Output.{line_added, output_is}
use Rattle.programs.proofs.building.frame_output.Goals as goal

pub returns : goal.returns
returns c =
    let fresh = c.new-output in
    let frame = c.args.frame.now in
    let output = c.put_line.new.self in
    let added = line_added fresh.result frame output c.put_line.ensures.size c.put_line.ensures.bytes in
    output_is (symbol_line frame) fresh.result output fresh.ensures.size fresh.ensures.bytes added (omega arith)
