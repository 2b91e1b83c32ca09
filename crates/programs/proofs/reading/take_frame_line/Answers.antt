-- `programs::reading::take_frame_line` meets its contract: the characters before the newline are taken as symbols. Assumes nothing.
use Rattle.std.proofs.Common.{◌≡◌, ◌-◌, ◌∙◌, length, get_or, rules}
use Rattle.sheets.specs.Text.{LINE_END}
use Rattle.programs.proofs.reading.Laws.{line_taken}
use Rattle.programs.proofs.reading.take_frame_line.Goals as goal

pub returns : goal.returns
returns c =
    let input = c.args.input.now in
    let ends : get_or input (length input - 1) 0 ≡ LINE_END = search rules in
    c.take_symbols.ensures ∙ line_taken input ends
