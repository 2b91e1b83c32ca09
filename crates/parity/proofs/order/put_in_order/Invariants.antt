-- What is written, and the symbols still to come, are all of them as they leave.
use Rattle.std.proofs.Common.{◌≡◌, ◌++◌, ◌-◌, take}
use Rattle.parity.specs.Order.{SYMBOLS, stood_at, symbols_at, interleaved}
use Rattle.parity.proofs.order.put_in_order.Given as goal

abbrev pub invariant-loop-i : goal.invariant-loop-i
invariant-loop-i l =
    take l.i l.symbols ++ symbols_at stood_at (l.block2 ++ l.block3) l.i (SYMBOLS - l.i) ≡ interleaved (l.block2 ++ l.block3)
