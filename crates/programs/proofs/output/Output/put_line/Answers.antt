-- `programs::output::Output::put_line` meets its contract. Assumes nothing.
use Rattle.std.proofs.Common.{◌≡◌, ◌+◌, ◌-◌, [], ◌∷◌, length, arith, rules}
use borrow.Rule.Slice.PartMut.{put_mid}
use Rattle.std.proofs.lemmas.List.Edits.{sets}
use Rattle.sheets.specs.Text.{LINE_END}
use Rattle.programs.specs.Symbols.{characters_of}
use Rattle.programs.specs.Output.{OUTPUT_BYTES, symbol_line}
use Rattle.programs.specs.Laws.Symbols.{characters_long}
use Rattle.programs.specs.Laws.Output.{puts_on, text_set}
use Rattle.programs.proofs.output.Output.put_line.Goals as goal

pub returns-clause-bytes : goal.returns-clause-bytes
unfolding symbol_line
returns-clause-bytes c =
    let self = c.args.self.now in
    let symbols = c.args.symbols.now in
    let characters = characters_of symbols in
    let same = characters_long symbols in
    let long : length self.bytes ≡ OUTPUT_BYTES = search rules in
    let part : self.size + length symbols - self.size ≡ length characters = omega arith in
    let end : self.size + length symbols ≡ self.size + length characters = omega arith in
    let line = put_mid self.size (self.size + length symbols - self.size) self.bytes c.set_characters.new.characters in
    let written : line ≡ sets self.bytes self.size characters =
    rw (c.set_characters.ensures, part) (text_set characters self.bytes OUTPUT_BYTES self.size long (omega (arith, c.requires.room))) in
    let all = puts_on self.bytes self.size characters (LINE_END ∷ []) (self.size + length symbols) line c.put.new.self.size c.put.new.self.bytes
    (end, written) (c.put.ensures.size, c.put.ensures.bytes) in
    all.1
