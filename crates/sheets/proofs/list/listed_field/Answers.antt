-- `sheets::list::listed_field` meets its contract: behind toi, the list has the fields of subframe 2. Assumes nothing.
use Prim.Native.Nat.{ℕ, suc, ◌-◌}
use mathlib.Core.Path.{◌≡◌, sym, ap, ◌∙◌}
use native.Mathlib.Omega.{arith}
use lib.ListN.{get_or}
use Rattle.fields.specs.Table.{fields_in, no_field}
use Rattle.sheets.specs.List.{sheet_rows, sheet_fields}
use Rattle.sheets.proofs.list.listed_field.Goals as goal

pub returns-then-k-eq0 : goal.returns-then-k-eq0
unfolding sheet_fields sheet_rows
returns-then-k-eq0 c = ap (λ (k : ℕ). get_or sheet_fields k no_field) (sym c.if-k-eq0.true)

pub returns : goal.returns
unfolding sheet_fields sheet_rows fields_in
returns c =
    let k = c.args.k in
    let e : suc (k - 1) ≡ k = omega arith in
    c.field_at.ensures ∙ ap (λ (j : ℕ). get_or sheet_fields j no_field) e
