-- `frames::build::build` meets its contract. Assumes nothing.
use mathlib.Core.Path.{sym, ◌∙◌}
use Rattle.words.specs.Laws.Digits.{none_not_bit}
use Rattle.words.specs.Laws.Turns.{bits_done}
use Rattle.frames.proofs.build.Laws.{right_sizes, all_judged}
use Rattle.frames.proofs.build.build.Goals as goal

pub invariant_of-contents : goal.invariant_of-contents
invariant_of-contents c =
    let a = c.args in
    let right = right_sizes a.toi a.counts.now a.page.now a.frame.now (sym c.has_sizes.ensures ∙ c.if-not-has_sizes.false) in
    record {
      time = c.if-toi-gt-LAST_TOI.false;
      count = right.0;
      whole = right.1;
      bits = none_not_bit a.page.now (bits_done a.page.now (sym c.judge_bits.ensures ∙ c.in_ok-judge_bits.was));
    }

pub returns : goal.returns
returns c =
    let a = c.args in
    all_judged a.toi a.counts.now a.page.now a.frame.now c.build_in.result (sym c.has_sizes.ensures ∙ c.if-not-has_sizes.false)
    (bits_done a.page.now (sym c.judge_bits.ensures ∙ c.in_ok-judge_bits.was)) c.build_in.new.frame c.if-toi-gt-LAST_TOI.false
    c.build_in.ensures.0 c.build_in.ensures.1
