-- `frames::build::Contents::build_in` meets its contract. Assumes nothing.
use mathlib.Core.Path.{◌≡◌, refl, sym, ap, ◌∙◌, subst}
use mathlib.Core.List.{List}
use Prim.Native.Nat.{ℕ}
use Rattle.std.proofs.Common.{rules}
use Rattle.std.specs.Prelude.{Err}
use Rattle.words.specs.Bits.{IsBits}
use Rattle.words.specs.Refusal.{Done}
use Rattle.fields.specs.FieldsBack.{bits2_are}
use Rattle.fields.specs.Pages.{range_answer}
use Rattle.fields.specs.Subframe2.{bits2, counts_answer}
use Rattle.frames.specs.Laws.Steps.{symbols_from}
use Rattle.frames.specs.Laws.Good.{page_judged}
use Rattle.frames.proofs.build.Laws.{written_answer, fields_in_front, second_refused, none_refused}
use Rattle.frames.proofs.build.Contents.build_in.Goals as goal

pub returns-in_err-judge_page : goal.returns-in_err-judge_page
returns-in_err-judge_page c =
    let a = c.args in
    let counts = a.self.counts.now in
    let refused : c.from_residual-in_err-judge_page.result ≡ Err c.in_err-judge_page.field-0.0 = search rules in
    second_refused (counts_answer counts) (range_answer a.self.page.now) _ (symbols_from a.self.toi (bits2 counts) a.self.page.now) a.frame.now a.frame.now _
    (sym (written_answer counts a.two.now c.args.self.count c.told-two) ∙ sym c.write_fields.ensures.0 ∙ c.in_ok-write_fields.was)
    (sym (page_judged a.self.page.now c.args.self.whole c.args.self.bits) ∙ sym c.judge_page.ensures ∙ c.in_err-judge_page.was) refused refl

pub write_frame-requires : goal.write_frame-requires
write_frame-requires c =
    let a = c.args in
    let counts = a.self.counts.now in
    let put = c.write_fields in
    let done = sym (written_answer counts a.two.now c.args.self.count c.told-two) ∙ sym put.ensures.0 ∙ c.in_ok-write_fields.was in (
      subst IsBits (sym (fields_in_front counts a.two.now c.args.self.count c.told-two put.new.bits put.ensures.1 done)) (bits2_are counts),
      c.requires,
    )

pub returns : goal.returns
returns c =
    let a = c.args in
    let counts = a.self.counts.now in
    let put = c.write_fields in
    let done = sym (written_answer counts a.two.now c.args.self.count c.told-two) ∙ sym put.ensures.0 ∙ c.in_ok-write_fields.was in
    none_refused (counts_answer counts) (range_answer a.self.page.now) Done (symbols_from a.self.toi (bits2 counts) a.self.page.now) c.write_frame.new.frame
    a.frame.now done (sym (page_judged a.self.page.now c.args.self.whole c.args.self.bits) ∙ sym c.judge_page.ensures ∙ c.in_ok-judge_page.was) refl
    (c.write_frame.ensures
    ∙ ap (λ (l : List ℕ). symbols_from a.self.toi l a.self.page.now)
    (fields_in_front counts a.two.now c.args.self.count c.told-two put.new.bits put.ensures.1 done))
