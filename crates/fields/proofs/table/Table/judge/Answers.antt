-- `fields::table::Table::judge` meets its contract. Assumes nothing.
use Rattle.std.proofs.Common.{Err, rules, sym, ap, ap₂, ◌∙◌, arith}
use Rattle.std.proofs.lemmas.Iterator.{empty_from_Zip}
use Rattle.words.specs.Refusal.{number}
use Rattle.fields.specs.Table.{fields_in}
use Rattle.fields.specs.Counts.{first_out}
use Rattle.fields.specs.Laws.Table.{bits_left, bits_most}
use Rattle.fields.specs.Laws.Answers.{refused_at_place, counts_right}
use Rattle.fields.specs.Laws.Counts.{out_here, out_later}
use Rattle.fields.proofs.table.Table.judge.Goals as goal

pub loop-field-init : goal.loop-field-init
loop-field-init c = search rules

pub overflow_add-at : goal.overflow_add-at
overflow_add-at c = omega (arith, bits_most c.args.self)

pub returns-then-not-in_range : goal.returns-then-not-in_range
returns-then-not-in_range c =
    let left = c.in-Some.ensures.steps in
    let out = out_here left.0 left.1 c.loop-field.at (search rules) in
    ap Err c.at.ensures ∙ sym (refused_at_place (number c.args.rule) _ _ (sym c.loop-field.invariant.2 ∙ out) (λ z. omega arith))

pub overflow_add-at-in-loop-field : goal.overflow_add-at-in-loop-field
overflow_add-at-in-loop-field c = omega (arith, bits_most c.args.self, bits_left c.in-Some.ensures.steps.0)

pub loop-field-preserved : goal.loop-field-preserved
loop-field-preserved c =
    let left = c.in-Some.ensures.steps in
    let later = out_later left.0 left.1 c.loop-field.at (search rules) in (
      search rules,
      omega (arith, bits_left left.0),
      sym later ∙ c.loop-field.invariant.2,
    )

pub returns : goal.returns
unfolding first_out
returns c =
    let none = empty_from_Zip _ c.next.new.self _ c.in-None.is c.next.ensures.steps (search rules) in
    sym (counts_right (number c.args.rule) c.args.from (fields_in c.args.self) c.args.counts.now (sym c.loop-field.invariant.2 ∙ ap₂ (first_out c.loop-field.at) none.0 none.1))
