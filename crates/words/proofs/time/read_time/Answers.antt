-- `words::time::read_time` meets its contract. Assumes nothing.
use native.Mathlib.Omega.{arith}
use Rattle.words.proofs.time.Laws.{packed}
use Rattle.words.proofs.time.read_time.Goals as goal

pub nearest_time-requires : goal.nearest_time-requires
nearest_time-requires c =
    let l = c.args.symbols.now in
    omega (arith, c.take_number.ensures, (packed l c.if-symbols-ne52.false).1)
