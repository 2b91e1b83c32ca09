-- `sheets::number::read_plain` meets its contract. Assumes nothing.
use Rattle.std.proofs.Common.{◌≡◌, sym, ap, ◌∙◌, Bool, arith}
use Rattle.sheets.specs.Number.{is_plain, all_digits}
use Rattle.sheets.specs.Laws.Steps.{digits_by}
use Rattle.sheets.proofs.number.Laws.{plain_empty, plain_zeros, plain_one, plain_first}
use Rattle.sheets.proofs.number.read_plain.Goals as goal
use Rattle.sheets.proofs.number.read_plain.Goals.{in_default-via-then-text-lt2, in_default-via-else-text-lt2+in_default-1}

pub returns-in-empty : goal.returns-in-empty
returns-in-empty c = rw (plain_empty c.args.text.now (omega arith))

pub returns-in-empty-2 : goal.returns-in-empty-2
returns-in-empty-2 c = rw (plain_zeros c.args.text.now (omega arith) (omega arith) (λ e. omega arith))

pub returns-in_default : goal.returns-in_default
returns-in_default c =
    let text = c.args.text.now in
    let plain : is_plain text ≡ all_digits text =
    elim c.in_default.branch [
      | in_default-via-then-text-lt2 w ↦ plain_one text (grind arith)
      | in_default-via-else-text-lt2+in_default-1 w ↦ plain_first text (grind arith) (λ e. grind arith)
    ] in
    c.read_digits.ensures ∙ ap (λ (t : Bool). digits_by t text) (sym plain)
