use Rattle.std.proofs.Common.{◌≡◌, ℕ, ◌++◌, get_or, length, refl, ap, ◌∙◌, arith}
use Rattle.parity.specs.Order.{SYMBOLS, stood_at, interleaved}
use Rattle.parity.proofs.order.Laws.{symbols_more, symbols_done}
use Rattle.parity.proofs.order.put_in_order.Goals as goal

pub loop-i-init : goal.loop-i-init
unfolding interleaved
loop-i-init c = refl

pub loop-i-preserved : goal.loop-i-preserved
loop-i-preserved c =
    let loop = c.loop-i in
    let l = c.args.block2.now ++ c.args.block3.now in
    let long : length loop.symbols ≡ SYMBOLS = omega (arith, loop.auto.symbols, c.requires.1) in
    symbols_more stood_at l loop.symbols loop.i loop.i SYMBOLS c.symbol_at.result long (omega arith)
    (c.symbol_at.ensures ∙ ap (λ (k : ℕ). get_or l k 0) c.stood_at.ensures)
    ∙ loop.invariant

pub returns : goal.returns
returns c =
    let loop = c.loop-i in
    let l = c.args.block2.now ++ c.args.block3.now in
    let long : length loop.symbols ≡ SYMBOLS = omega (arith, loop.auto.symbols, c.requires.1) in
    symbols_done stood_at l loop.symbols (interleaved l) loop.i loop.i SYMBOLS long (omega arith) loop.invariant
