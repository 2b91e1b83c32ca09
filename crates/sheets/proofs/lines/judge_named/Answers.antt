-- `sheets::lines::judge_named` meets its contract. Assumes nothing.
use Rattle.std.proofs.Common.{◌≡◌, ℕ, ℤ, ◌+◌, ◌<◌, false, is_some, List, Option, None, Ok, Err, length, get_or, sym, ap, subst, ◌∙◌, arith, rules, lt-ltb}
use Rattle.std.proofs.lemmas.Grind.{common_steps}
use mir.Facts.{to_z-of_z}
use mir.Syntax.{w64}
use Rattle.words.specs.declared.refusal.Rule.TheVariants.{Number}
use Rattle.fields.specs.Table.{no_field}
use Rattle.fields.specs.declared.table.Field.{Field}
use Rattle.sheets.specs.List.{NUMBERS, sheet_names, sheet_fields}
use Rattle.sheets.specs.Laws.Steps.{ok_is, err_is, BEYOND, named_line, number_read, line_by}
use Rattle.sheets.specs.Laws.List.{listed_many, fields_below}
use Rattle.sheets.proofs.lines.judge_named.Goals as goal

pub returns-then-again : goal.returns-then-again
unfolding named_line
returns-then-again c = rw (lt-ltb c.args.k (length sheet_names) (omega (arith, listed_many)), sym c.is_some-again.ensures ∙ c.if-again.true)

pub read_number-requires : goal.read_number-requires
read_number-requires c = subst (λ (f : Field). f.most + 1 < BEYOND) (sym c.listed_field.ensures) (fields_below c.args.k)

-- where the name is not yet given, its number decides
new_name : (k : ℕ) (text : List ℕ) (found : List (Option ℤ)) (f : Field) (r : Option ℤ) → k < NUMBERS → is_some (get_or found k None) ≡ false
    → f ≡ get_or sheet_fields k no_field → r ≡ number_read f text → line_by k r ≡ named_line k text found
unfolding named_line
new_name k text found f r h new e i =
    rw (lt-ltb k (length sheet_names) (omega (arith, listed_many)), new) (ap (line_by k) (i ∙ ap (λ (x : Field). number_read x text) e))

pub returns-in_err-number : goal.returns-in_err-number
returns-in_err-number c =
    let a = c.args in
    let refused : c.from_residual.result ≡ Err c.in_err-number.field-0.0 = grind (arith, common_steps) in
    let none = err_is c.read_number.result Number c.in_err-number.field-0.0 (sym c.ok_or.ensures.value ∙ c.in_err-number.was) in
    refused
    ∙ ap Err none.1
    ∙ ap (line_by a.k) (sym none.0)
    ∙ new_name a.k a.text.now a.found.now c.listed_field.result c.read_number.result c.requires (sym c.is_some-again.ensures ∙ c.if-again.false) c.listed_field.ensures c.read_number.ensures

pub returns : goal.returns
returns c =
    let a = c.args in
    let some = ok_is c.read_number.result Number c.in_ok-number.number (sym c.ok_or.ensures.value ∙ c.in_ok-number.was) in
    ap (λ (x : ℤ). Ok (a.k, x)) (to_z-of_z {w = w64} (search rules))
    ∙ ap (line_by a.k) (sym some)
    ∙ new_name a.k a.text.now a.found.now c.listed_field.result c.read_number.result c.requires (sym c.is_some-again.ensures ∙ c.if-again.false) c.listed_field.ensures c.read_number.ensures
