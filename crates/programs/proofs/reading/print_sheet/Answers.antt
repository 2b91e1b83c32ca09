-- `programs::reading::print_sheet` meets its contract: what is read is good, so its sheet is printed and has room. Assumes nothing.
use Rattle.std.proofs.Common.{◌≡◌, ◌∙◌, sym, ap, length, rules}
use Rattle.programs.specs.Output.{OUTPUT_BYTES, output_of}
use Rattle.programs.specs.Laws.Output.{size_fits}
use Rattle.programs.proofs.reading.Laws.{refusal_printed, read_good, sheet_printed}
use Rattle.programs.proofs.reading.print_sheet.Goals as goal

pub contents_output-requires : goal.contents_output-requires
contents_output-requires c = read_good c.args.input.now c.in-Ok.frame (sym c.read_input.ensures ∙ c.in-Ok.is)

pub returns-in-Ok : goal.returns-in-Ok
returns-in-Ok c =
    let text = sheet_printed c.args.input.now c.in-Ok.frame (sym c.read_input.ensures ∙ c.in-Ok.is) in
    let long : length c.contents_output.result.bytes ≡ OUTPUT_BYTES = search rules in
    let printed = c.contents_output.ensures ∙ ap output_of text in
    (printed, size_fits c.contents_output.result _ long printed)

pub returns-in-Err : goal.returns-in-Err
returns-in-Err c =
    let text = refusal_printed c.args.input.now c.in-Err.refusal (sym c.read_input.ensures ∙ c.in-Err.is) in
    let long : length c.refusal_output.result.bytes ≡ OUTPUT_BYTES = search rules in
    let printed = c.refusal_output.ensures ∙ ap output_of text in
    (printed, size_fits c.refusal_output.result _ long printed)
