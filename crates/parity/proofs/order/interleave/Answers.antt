-- The blocks are judged in turn.
use Rattle.std.proofs.Common.{rules}
use Rattle.parity.proofs.order.Laws.{interleave_turns}
use Rattle.parity.proofs.order.interleave.Goals as goal

pub returns-in_err-judge_bits : goal.returns-in_err-judge_bits
returns-in_err-judge_bits c = search (rules, interleave_turns c.args.block2.now c.args.block3.now c.args.symbols.now)

pub returns-in_err-judge_bits_behind : goal.returns-in_err-judge_bits_behind
returns-in_err-judge_bits_behind c = search (rules, interleave_turns c.args.block2.now c.args.block3.now c.args.symbols.now)

pub returns : goal.returns
returns c = search (rules, interleave_turns c.args.block2.now c.args.block3.now c.args.symbols.now)
