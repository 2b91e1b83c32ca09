-- `frames::read::page_of` meets its contract. Assumes nothing.
use mathlib.Core.Path.{sym, ◌∙◌}
use lib.Seq.{length-take-le}
use Rattle.tables.specs.declared.matrix.Subframe.TheVariants.{Three}
use Rattle.frames.proofs.read.Laws.{done_long, done_length, done_bits, page_done}
use Rattle.frames.proofs.read.page_of.Goals as goal

pub slice_bounds-page_bits-end : goal.slice_bounds-page_bits-end
slice_bounds-page_bits-end c =
    let three = c.args.three.now in
    sym (length-take-le 250 three (done_long Three three (sym c.judge_block.ensures ∙ c.in_ok-judge_block.was)))

pub page_bits-requires : goal.page_bits-requires
page_bits-requires c =
    let three = c.args.three.now in
    let done = sym c.judge_block.ensures ∙ c.in_ok-judge_block.was in
    (done_length Three three done, done_bits Three three done)

pub returns : goal.returns
returns c = c.page_bits.ensures ∙ page_done c.args.three.now (sym c.judge_block.ensures ∙ c.in_ok-judge_block.was)
