-- `sheets::number::read_number` meets its contract. Assumes nothing.
use Rattle.std.proofs.Common.{◌∙◌, arith}
use Rattle.std.proofs.Math.ListN.{get_or-eq_default}
use Rattle.sheets.proofs.number.Laws.{number_negative, number_positive}
use Rattle.sheets.proofs.number.read_number.Goals as goal
use Rattle.sheets.proofs.number.read_number.Goals.{in_default-via-then-text-lt1, in_default-via-else-text-lt1+in_default-1}

pub returns-in-45 : goal.returns-in-45
returns-in-45 c = c.read_negative.ensures ∙ number_negative c.args.field c.args.text.now (omega arith)

pub returns-in_default : goal.returns-in_default
returns-in_default c =
    let f = c.args.field in
    let text = c.args.text.now in
    c.read_positive.ensures
    ∙ elim c.in_default.branch [
      | in_default-via-then-text-lt1 w ↦ number_positive f text (λ e. omega (arith, get_or-eq_default text 0 {n = 0} (grind arith)))
      | in_default-via-else-text-lt1+in_default-1 w ↦ number_positive f text (λ e. grind arith)
    ]
