-- `programs::output::Output::put` meets its contract. Assumes nothing.
use Rattle.std.proofs.Common.{◌≡◌, ◌+◌, ◌-◌, length, arith, rules}
use Rattle.programs.specs.Output.{OUTPUT_BYTES}
use Rattle.programs.specs.Laws.Output.{text_set}
use Rattle.programs.proofs.output.Output.put.Goals as goal

pub returns-clause-bytes : goal.returns-clause-bytes
returns-clause-bytes c =
    let self = c.args.self.now in
    let text = c.args.text.now in
    let long : length self.bytes ≡ OUTPUT_BYTES = search rules in
    let part : self.size + length text - self.size ≡ length text = omega arith in
    rw (c.copy_from_slice.ensures.after, part) (text_set text self.bytes OUTPUT_BYTES self.size long c.requires)
