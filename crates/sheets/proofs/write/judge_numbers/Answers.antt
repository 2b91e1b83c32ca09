-- `sheets::write::judge_numbers` meets its contract. Assumes nothing.
use mathlib.Core.Path.{◌≡◌, sym, ap₂, ◌∙◌, ap}
use borrow.Author.Rules.{sfits_of}
use mathlib.Core.Bool.{Bool}
use mathlib.Core.List.{List}
use lib.IntN.{ℤ, pos}
use lib.ListN.{get_or}
use mir.Syntax.{w64}
use mir.ValLaws.{to_z-of_z}
use Rattle.std.specs.Prelude.{Err}
use Rattle.fields.specs.Table.{no_field}
use Rattle.fields.specs.Counts.{in_range}
use Rattle.fields.specs.declared.table.Field.{Field}
use Rattle.sheets.specs.List.{sheet_fields}
use Rattle.sheets.proofs.write.Laws.{wrong_time, right_time}
use Rattle.sheets.proofs.write.judge_numbers.Goals as goal

-- whether the first number, as it is lent on, is a time
time_is : (zs : List ℤ) (z : ℤ) (f : Field) (is : Bool) → is ≡ in_range f z → f ≡ get_or sheet_fields 0 no_field → z ≡ get_or zs 0 (pos 0)
    → in_range (get_or sheet_fields 0 no_field) (get_or zs 0 (pos 0)) ≡ is
time_is zs z f is e g h = sym (e ∙ ap₂ in_range g h)

pub returns-then-in_range : goal.returns-then-in_range
returns-then-in_range c =
    let zs = c.args.numbers.now in
    let time = time_is zs _ _ _ c.in_range.ensures c.listed_field.ensures (to_z-of_z w64 (get_or zs 0 (pos 0)) (sfits_of c.in_range-arg-1.given)) in
    c.judge_counts.ensures ∙ right_time zs c.requires (time ∙ c.if-in_range.true)

pub returns : goal.returns
returns c =
    let zs = c.args.numbers.now in
    let time = time_is zs _ _ _ c.in_range.ensures c.listed_field.ensures (to_z-of_z w64 (get_or zs 0 (pos 0)) (sfits_of c.in_range-arg-1.given)) in
    ap Err c.at.ensures ∙ wrong_time zs (time ∙ c.if-in_range.false)
