-- `programs::building::split_line` meets its contract. Assumes nothing.
use Rattle.std.proofs.Common.{◌∙◌, ap, ℕ, take, arith}
use Rattle.sheets.specs.Text.{LINE_END}
use Rattle.sheets.specs.Laws.Text.{index_le}
use Rattle.programs.specs.Building.{first_line}
use Rattle.programs.proofs.building.Laws.{behind_is}
use Rattle.programs.proofs.building.split_line.Goals as goal

pub split_at-requires : goal.split_at-requires
split_at-requires c = omega (arith, c.find.ensures, index_le LINE_END c.args.input.now)

pub returns : goal.returns
unfolding first_line
returns c =
    let input = c.args.input.now in
    let cut = c.split_at.ensures in
    let behind = behind_is input _ _ c.find.ensures cut.back _ _ c.in_ok-behind.ensures.cases.0 in
    (behind.0, cut.front ∙ ap (λ (end : ℕ). take end input) c.find.ensures, behind.1)
