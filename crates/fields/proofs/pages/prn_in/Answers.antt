-- `fields::pages::prn_in` meets its contract. Assumes nothing.
use native.Mathlib.Omega.{arith}
use lib.ListN.{drop}
use Rattle.fields.proofs.pages.Laws.{byte_of}
use Rattle.fields.proofs.pages.prn_in.Goals as goal

pub overflow_cast-result : goal.overflow_cast-result
overflow_cast-result c = omega (arith, c.take_number.ensures, byte_of 8 (drop 0 c.args.bits.now) (omega arith))
