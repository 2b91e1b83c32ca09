-- `programs::output::Output::put_sheet` meets its contract: the sheet of good numbers has at most 800 bytes. Assumes nothing.
use mathlib.Core.Path.{sym, ap, ◌∙◌}
use Rattle.std.proofs.Common.{◌≡◌, length, arith, rules}
use Rattle.std.specs.Prelude.{is_ok}
use Rattle.programs.specs.Output.{OUTPUT_BYTES}
use Rattle.programs.proofs.output.Laws.{good_sheet_fits, good_sheet_put}
use Rattle.programs.proofs.output.Output.put_sheet.Goals as goal

pub unwrap-requires : goal.unwrap-requires
unwrap-requires c =
    let self = c.args.self.now in
    let long : length self.bytes ≡ OUTPUT_BYTES = search rules in
    ap is_ok (c.write_sheet.ensures.0 ∙ good_sheet_fits c.args.numbers.now self c.requires.range long c.requires.room)

pub overflow_add-self : goal.overflow_add-self
overflow_add-self c =
    let self = c.args.self.now in
    let long : length self.bytes ≡ OUTPUT_BYTES = search rules in
    let put = good_sheet_put c.args.numbers.now self c.requires.range long c.requires.room _ c.write_sheet.new.out (sym c.unwrap.ensures ∙ c.write_sheet.ensures.0) c.write_sheet.ensures.1 in
    omega arith

pub returns : goal.returns
returns c =
    let self = c.args.self.now in
    let long : length self.bytes ≡ OUTPUT_BYTES = search rules in
    let put = good_sheet_put c.args.numbers.now self c.requires.range long c.requires.room _ c.write_sheet.new.out (sym c.unwrap.ensures ∙ c.write_sheet.ensures.0) c.write_sheet.ensures.1 in
    record { few = put.1; size = put.0.0; bytes = put.0.1 }
