-- `programs::symbols::set_symbols` meets its contract. Assumes nothing.
use Rattle.std.proofs.Common.{◌∙◌, sym, arith}
use Rattle.programs.specs.Symbols.{symbols_in}
use Rattle.programs.specs.Laws.Symbols.{all_at, symbol_is, symbols_long}
use Rattle.programs.proofs.symbols.Laws.{symbol_put, symbols_end, all_written}
use Rattle.programs.proofs.symbols.set_symbols.Goals as goal

pub loop-i-init : goal.loop-i-init
loop-i-init c =
    let characters = c.args.characters.now in
    all_written (symbols_in characters) c.args.symbols.now (omega (arith, symbols_long characters, c.requires.0))

pub overflow_sub-symbols : goal.overflow_sub-symbols
overflow_sub-symbols c = (symbol_is _ (all_at c.args.characters.now c.loop-i.i c.requires.1 (omega arith))).0

pub loop-i-preserved : goal.loop-i-preserved
loop-i-preserved c = symbol_put c.args.characters.now c.loop-i.i (omega arith) c.loop-i.symbols ∙ c.loop-i.invariant

pub returns : goal.returns
returns c = sym (symbols_end c.args.characters.now c.loop-i.i (omega arith) c.loop-i.symbols) ∙ c.loop-i.invariant
