-- `frames::symbols::Symbols::of` meets its contract. Assumes nothing.
use Rattle.words.specs.Laws.Digits.{none_not_bit}
use Rattle.std.proofs.Common.{rules}
use Rattle.frames.proofs.symbols.Symbols.of.Goals as goal

pub invariant_of-result-clause-bits : goal.invariant_of-result-clause-bits
invariant_of-result-clause-bits c = none_not_bit c.args.frame.now (search rules)
