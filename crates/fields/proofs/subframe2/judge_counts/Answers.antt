use Rattle.std.proofs.Common.{sym, ◌∙◌, arith}
use Rattle.fields.specs.Laws.Table.{count_subframe2}
use Rattle.fields.proofs.subframe2.judge_counts.Goals as goal

pub judge-requires : goal.judge-requires
judge-requires c = (c.if-unfit.false ∙ sym count_subframe2, omega arith)
