-- What is written, and the symbols still to come, are the block.
use Rattle.std.proofs.Common.{◌≡◌, ◌++◌, ◌+◌, ◌-◌, length, take}
use Rattle.parity.specs.Order.{leaves_at, symbols_at}
use Rattle.parity.proofs.order.take_block.Given as goal

abbrev pub invariant-loop-i : goal.invariant-loop-i
invariant-loop-i l =
    let n = length l.fn.block in
    take l.i l.block ++ symbols_at leaves_at l.symbols (l.from + l.i) (n - l.i) ≡ symbols_at leaves_at l.symbols l.from n
