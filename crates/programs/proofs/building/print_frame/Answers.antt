-- `programs::building::print_frame` meets its contract: what is built of an input that is not refused is bits. Assumes nothing.
use Rattle.std.proofs.Common.{◌≡◌, ◌∙◌, sym, ap, length, rules}
use Rattle.programs.specs.Output.{OUTPUT_BYTES, output_of}
use Rattle.programs.specs.Laws.Output.{size_fits}
use Rattle.programs.proofs.building.Laws.{refusal_printed, frame_bits, frame_printed}
use Rattle.programs.proofs.building.print_frame.Goals as goal

pub frame_output-requires : goal.frame_output-requires
frame_output-requires c = frame_bits c.args.input.now (sym c.build_input.ensures.0 ∙ c.in-Ok.is) _ _ c.build_input.ensures.1

pub returns-in-Ok : goal.returns-in-Ok
returns-in-Ok c =
    let text = frame_printed c.args.input.now (sym c.build_input.ensures.0 ∙ c.in-Ok.is) _ _ c.build_input.ensures.1 in
    let long : length c.frame_output.result.bytes ≡ OUTPUT_BYTES = search rules in
    let printed = c.frame_output.ensures ∙ ap output_of text in
    (printed, size_fits c.frame_output.result _ long printed)

pub returns-in-Err : goal.returns-in-Err
returns-in-Err c =
    let text = refusal_printed c.args.input.now c.in-Err.refusal (sym c.build_input.ensures.0 ∙ c.in-Err.is) in
    let long : length c.refusal_output.result.bytes ≡ OUTPUT_BYTES = search rules in
    let printed = c.refusal_output.ensures ∙ ap output_of text in
    (printed, size_fits c.refusal_output.result _ long printed)
