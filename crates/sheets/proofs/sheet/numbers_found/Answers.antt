-- `sheets::sheet::numbers_found` meets its contract: the numbers before place k are written. Assumes nothing.
use Rattle.std.proofs.Common.{ℤ, Option, None, pos, map, sym, ◌∙◌, arith}
use Rattle.std.proofs.lemmas.List.{ext_get_or, get_or-map, length-map}
use Rattle.std.specs.Option.{unwrap_or}
use Rattle.sheets.proofs.sheet.numbers_found.Goals as goal

pub returns : goal.returns
returns c =
    let found = c.args.found.now in
    let number = λ (x : Option ℤ). unwrap_or x (pos 0) in
    let loop = c.loop-k in
    ext_get_or (pos 0) loop.numbers (map number found) (omega (arith, loop.invariant.0, length-map found number, c.told-found))
    (λ i h. loop.invariant.1 i (omega arith) ∙ sym (get_or-map number found i None (pos 0) (omega (arith, loop.invariant.0, c.told-found))))
