-- `programs::symbols::set_symbols` meets its contract. The invariant: with the symbols that are left written, it is all of them.
-- Assumes nothing.
use Rattle.std.proofs.Common.{◌≡◌, drop}
use Rattle.std.proofs.lemmas.List.Edits.{sets}
use Rattle.programs.specs.Symbols.{symbols_in}
use Rattle.programs.proofs.symbols.set_symbols.Given as goal

abbrev pub invariant-loop-i : goal.invariant-loop-i
invariant-loop-i l = sets l.symbols l.i (symbols_in (drop l.i l.characters)) ≡ symbols_in l.characters
