use Rattle.std.proofs.Common.{◌≡◌, ℕ, ◌++◌, ◌+◌, ◌-◌, length, get_or, take, set, ap, ◌∙◌, arith}
use Rattle.parity.specs.Order.{leaves_at, symbols_at}
use Rattle.parity.proofs.order.Laws.{symbols_more, symbols_done}
use Rattle.parity.proofs.order.take_block.Goals as goal

pub loop-i-preserved : goal.loop-i-preserved
loop-i-preserved c =
    let loop = c.loop-i in
    let from = c.args.from in
    let l = c.args.symbols.now in
    let n = length c.args.block.now in
    let v = get_or l c.leaves_at.result 0 in
    let at : from + (loop.i + 1) ≡ from + loop.i + 1 = omega arith in
    ap (λ (k : ℕ). take (loop.i + 1) (set loop.block loop.i v) ++ symbols_at leaves_at l k (n - (loop.i + 1))) at
    ∙ symbols_more leaves_at l loop.block (from + loop.i) loop.i n v loop.auto.block c.loop-i-test.true
    (ap (λ (k : ℕ). get_or l k 0) c.leaves_at.ensures)
    ∙ loop.invariant

pub returns : goal.returns
returns c =
    let loop = c.loop-i in
    let from = c.args.from in
    let l = c.args.symbols.now in
    let n = length c.args.block.now in
    symbols_done leaves_at l loop.block (symbols_at leaves_at l from n) (from + loop.i) loop.i n loop.auto.block c.loop-i-test.false
    loop.invariant
