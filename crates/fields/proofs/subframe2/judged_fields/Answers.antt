-- `fields::subframe2::judged_fields` meets its contract. Assumes nothing.
use mathlib.Core.Path.{◌≡◌, sym, ap, ◌∙◌}
use native.Mathlib.Omega.{arith}
use Prim.Native.Nat.{◌+◌}
use Rattle.std.proofs.Common.{rules}
use Rattle.std.specs.Prelude.{Err}
use Rattle.words.specs.Refusal.{FIELD_2}
use Rattle.fields.specs.Table.{fields_in}
use Rattle.fields.specs.Laws.Answers.{counts_judged_lem}
use Rattle.fields.specs.Laws.Table.{count_subframe2, bits_subframe2}
use Rattle.fields.proofs.subframe2.Laws.{count_judged, spare_is, spare_set, all_in}
use Rattle.fields.specs.declared.table.Table.TheVariants.{Subframe2}
use Rattle.fields.proofs.subframe2.judged_fields.Goals as goal

pub read-requires : goal.read-requires
read-requires c = (sym count_subframe2, omega (arith, bits_subframe2, c.requires))

pub judge-requires : goal.judge-requires
judge-requires c = (c.read.auto.counts ∙ sym count_subframe2, omega arith)

pub overflow_add-end : goal.overflow_add-end
overflow_add-end c = omega (arith, c.bit_count-end.ensures, bits_subframe2)

pub returns-in_err-judge : goal.returns-in_err-judge
returns-in_err-judge c =
    let refused : c.from_residual.result ≡ Err c.in_err-judge.field-0.0 = search rules in
    refused
    ∙ count_judged c.args.bits.now c.read.new.counts c.in_err-judge.field-0.0 c.read.ensures (sym c.judge.ensures ∙ c.in_err-judge.was)

pub returns-then-take_number-ne0 : goal.returns-then-take_number-ne0
returns-then-take_number-ne0 c =
    let l = c.args.bits.now in
    let end = c.bit_count-end in
    let reserved = spare_is l c.take_number.result end.result c.take_number.ensures end.ensures in
    let judged = counts_judged_lem FIELD_2 0 (fields_in Subframe2) c.read.new.counts (sym c.judge.ensures ∙ c.in_ok-judge.was) in
    ap Err c.at.ensures
    ∙ spare_set l c.read.new.counts (end.result + 1) c.read.ensures judged
    (λ z. c.if-take_number-ne0.true (reserved ∙ z)) (omega (arith, end.ensures))

pub returns : goal.returns
returns c =
    let l = c.args.bits.now in
    let end = c.bit_count-end in
    let reserved = spare_is l c.take_number.result end.result c.take_number.ensures end.ensures in
    let judged = counts_judged_lem FIELD_2 0 (fields_in Subframe2) c.read.new.counts (sym c.judge.ensures ∙ c.in_ok-judge.was) in
    all_in l c.read.new.counts c.read.ensures judged (sym reserved ∙ c.if-take_number-ne0.false)
