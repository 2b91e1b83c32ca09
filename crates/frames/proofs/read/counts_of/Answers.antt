-- `frames::read::counts_of` meets its contract. Assumes nothing.
use mathlib.Core.Path.{sym, ◌∙◌}
use lib.Seq.{length-take-le}
use Rattle.tables.specs.declared.matrix.Subframe.TheVariants.{Two}
use Rattle.frames.proofs.read.Laws.{done_long, counts_done}
use Rattle.frames.proofs.read.counts_of.Goals as goal

pub slice_bounds-read_fields-end : goal.slice_bounds-read_fields-end
slice_bounds-read_fields-end c =
    let two = c.args.two.now in
    sym (length-take-le 576 two (done_long Two two (sym c.judge_block.ensures ∙ c.in_ok-judge_block.was)))

pub returns : goal.returns
returns c = c.read_fields.ensures ∙ counts_done c.args.two.now (sym c.judge_block.ensures ∙ c.in_ok-judge_block.was)
