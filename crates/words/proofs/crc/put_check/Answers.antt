-- `words::crc::put_check` meets its contract. Assumes nothing.
use mathlib.Core.Path.{◌∙◌}
use native.Mathlib.Omega.{arith}
use Rattle.words.proofs.crc.Laws.{check_put}
use Rattle.words.proofs.crc.put_check.Goals as goal

pub returns : goal.returns
returns c =
    let l = c.args.block.now in
    let put = c.put_number in
    check_put l c.from-check.result put.result put.new.bytes (omega arith)
    (c.from-check.ensures ∙ c.check_bits.ensures) put.ensures.0 put.ensures.1
