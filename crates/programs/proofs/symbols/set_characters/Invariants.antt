-- `programs::symbols::set_characters` meets its contract. The invariant: with the characters that are left written, it is all of them.
-- Assumes nothing.
use Rattle.std.proofs.Common.{◌≡◌, drop}
use Rattle.std.proofs.lemmas.List.Edits.{sets}
use Rattle.programs.specs.Symbols.{characters_of}
use Rattle.programs.proofs.symbols.set_characters.Given as goal

abbrev pub invariant-loop-i : goal.invariant-loop-i
invariant-loop-i l = sets l.characters l.i (characters_of (drop l.i l.symbols)) ≡ characters_of l.symbols
