-- `programs::symbols::set_characters` meets its contract. Assumes nothing.
use Rattle.std.proofs.Common.{◌∙◌, sym, arith}
use Rattle.programs.specs.Symbols.{characters_of}
use Rattle.programs.specs.Laws.Symbols.{characters_long}
use Rattle.programs.proofs.symbols.Laws.{character_put, characters_end, all_written}
use Rattle.programs.proofs.symbols.set_characters.Goals as goal

pub loop-i-init : goal.loop-i-init
loop-i-init c =
    let symbols = c.args.symbols.now in
    all_written (characters_of symbols) c.args.characters.now (omega (arith, characters_long symbols, c.requires.1))

pub loop-i-preserved : goal.loop-i-preserved
loop-i-preserved c = character_put c.args.symbols.now c.loop-i.i (omega arith) c.loop-i.characters ∙ c.loop-i.invariant

pub returns : goal.returns
returns c = sym (characters_end c.args.symbols.now c.loop-i.i (omega arith) c.loop-i.characters) ∙ c.loop-i.invariant
