-- The blocks are the two parts of the symbols as they stood.
use Rattle.std.proofs.Common.{rules}
use Rattle.parity.specs.Laws.Order.{first_block_lem, second_block_lem}
use Rattle.parity.proofs.order.deinterleave.Goals as goal

pub returns : goal.returns
returns c = search (rules, first_block_lem c.args.symbols.now, second_block_lem c.args.symbols.now)
