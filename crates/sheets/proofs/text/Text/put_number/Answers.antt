-- `sheets::text::Text::put_number` meets its contract. Assumes nothing.
use Rattle.std.proofs.Common.{◌≡◌, ◌++◌, length, length-append, ap, ◌∙◌, arith}
use mir.Syntax.{w64}
use mir.ValLaws.{to_z-of_z}
use Rattle.sheets.specs.Number.{decimal, numeral}
use Rattle.sheets.proofs.number.Laws.{some_numeral, with_minus, without_minus}
use Rattle.sheets.proofs.text.Text.put_number.Goals as goal
use Rattle.sheets.proofs.text.Text.put_number.Goals.{then-number-lt0, else-number-lt0}

pub push-requires : goal.push-requires
push-requires c = omega (arith, some_numeral c.args.number)

pub put_decimal-requires : goal.put_decimal-requires
put_decimal-requires c =
    let same = to_z-of_z w64 c.args.number c.ranges.number in
    let digits = ap decimal c.unsigned_abs.ensures.value in
    let is : c.if-number-lt0.self ++ decimal c.unsigned_abs.result ≡ c.args.self.now ++ numeral c.args.number =
    elim c.if-number-lt0.branch [
      | then-number-lt0 w ↦ with_minus _ _ _ _ _ same digits w.if-number-lt0.true (w.self-is ∙ w.push.ensures)
      | else-number-lt0 w ↦ without_minus _ _ _ _ _ same digits w.if-number-lt0.false w.self-is
    ] in
    omega (arith, ap length is, length-append c.if-number-lt0.self (decimal c.unsigned_abs.result), length-append c.args.self.now (numeral c.args.number), c.requires)

pub returns : goal.returns
returns c =
    let same = to_z-of_z w64 c.args.number c.ranges.number in
    let digits = ap decimal c.unsigned_abs.ensures.value in
    c.put_decimal.ensures
    ∙ elim c.if-number-lt0.branch [
      | then-number-lt0 w ↦ with_minus _ _ _ _ _ same digits w.if-number-lt0.true (w.self-is ∙ w.push.ensures)
      | else-number-lt0 w ↦ without_minus _ _ _ _ _ same digits w.if-number-lt0.false w.self-is
    ]
