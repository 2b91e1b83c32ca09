use Rattle.std.proofs.Common.{arith}
use Rattle.words.specs.Laws.Digits.{not_bit_le}
use Rattle.parity.proofs.order.judge_bits_behind.Goals as goal

pub overflow_add-before : goal.overflow_add-before
overflow_add-before c = omega (arith, c.first_not_bit-bad.ensures, not_bit_le c.args.bytes.now, c.requires)
