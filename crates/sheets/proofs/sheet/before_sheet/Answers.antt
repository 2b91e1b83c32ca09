-- `sheets::sheet::before_sheet` meets its contract. Assumes nothing.
use mathlib.Core.Path.{sym, ap, ◌∙◌}
use native.Mathlib.Omega.{arith}
use lib.ListN.{length-take}
use Rattle.sheets.specs.Sheet.{sheet_before}
use Rattle.sheets.specs.Laws.Sheet.{before_within}
use Rattle.sheets.proofs.sheet.before_sheet.Goals as goal

pub slice_bounds-result-end : goal.slice_bounds-result-end
slice_bounds-result-end c =
    let e = ap sheet_before (sym c.read_sheet.ensures ∙ c.in-Ok.is) in
    simp length-take (omega (arith, e, before_within c.args.bytes.now))
