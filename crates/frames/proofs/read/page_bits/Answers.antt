-- `frames::read::page_bits` meets its contract. Assumes nothing.
use mathlib.Core.Path.{◌≡◌, sym, ◌∙◌}
use Rattle.std.proofs.Common.{rules}
use Rattle.std.specs.Prelude.{Err}
use Rattle.frames.specs.Laws.Good.{page_judged}
use Rattle.frames.proofs.read.page_bits.Goals as goal

pub returns-in_err-judge_page : goal.returns-in_err-judge_page
returns-in_err-judge_page c =
    let refused : c.from_residual.result ≡ Err c.in_err-judge_page.field-0.0 = search rules in
    rw (sym (page_judged c.args.bits.now c.requires.0 c.requires.1) ∙ sym c.judge_page.ensures ∙ c.in_err-judge_page.was) refused
