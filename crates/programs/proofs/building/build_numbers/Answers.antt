-- `programs::building::build_numbers` meets its contract: the numbers are in range, so the first is a time. Assumes nothing.
use Rattle.std.proofs.Common.{◌≡◌, refl, take, drop, arith}
use Rattle.std.proofs.Math.Seq.{take_all}
use lib.ListN.{length-drop}
use Rattle.programs.proofs.building.Laws.{first_fits, numbers_built}
use Rattle.programs.proofs.building.build_numbers.Goals as goal

pub overflow_cast-toi : goal.overflow_cast-toi
overflow_cast-toi c = first_fits c.args.numbers.now c.requires.0

pub returns : goal.returns
returns c =
    let zs = c.args.numbers.now in
    let others : take 33 (drop 1 zs) ≡ drop 1 zs = take_all 33 (drop 1 zs) (omega (arith, c.told-numbers, length-drop 1 zs)) in
    numbers_built zs c.requires.0 c.args.page.now c.args.frame.now c.told-page c.requires.1 c.told-frame _ (take 33 (drop 1 zs)) _ _ refl others
    c.build.ensures
