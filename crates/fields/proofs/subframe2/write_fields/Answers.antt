-- `fields::subframe2::write_fields` meets its contract. Assumes nothing.
use mathlib.Core.Path.{◌≡◌, sym, ◌∙◌}
use native.Mathlib.Omega.{arith}
use lib.Dec.{lit<}
use lib.ListN.{length}
use Rattle.fields.specs.Laws.Table.{count_subframe2, bits_subframe2}
use Rattle.fields.proofs.counts.Laws.{number_fits}
use Rattle.fields.proofs.subframe2.Laws.{judged_done, done_counts, written_bits2}
use Rattle.fields.proofs.subframe2.write_fields.Goals as goal

pub write-requires : goal.write-requires
write-requires c =
    let a = c.args in
    let ok = done_counts a.counts.now (sym c.judge_counts.ensures ∙ c.in_ok-judge_counts.was) in (
      ok.0 ∙ sym count_subframe2,
      (omega (arith, bits_subframe2, c.if-bits-ne576.false), ok.1),
    )

pub returns : goal.returns
returns c =
    let a = c.args in
    let long : length a.bits.now ≡ 576 = c.if-bits-ne576.false in
    let done = sym c.judge_counts.ensures ∙ c.in_ok-judge_counts.was in
    let write = c.write in
    let count = c.bit_count in
    let put = c.put_number in
    let written = judged_done a.counts.now a.bits.now long done put.new.bytes
    (put.ensures.1
    ∙ written_bits2 a.counts.now a.bits.now write.new.bits count.result (done_counts a.counts.now done).0
    (write.auto.bits ∙ long) count.ensures write.ensures) in (
      put.ensures.0 ∙ number_fits write.new.bits count.result 10 0 (omega (arith, write.auto.bits, long, count.ensures, bits_subframe2)) (lit< tt) ∙ written.0,
      written.1,
    )
