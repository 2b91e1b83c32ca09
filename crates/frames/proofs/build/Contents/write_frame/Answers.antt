-- `frames::build::Contents::write_frame` meets its contract. Assumes nothing.
use mathlib.Core.Path.{sym, ap₂, ◌∙◌, subst}
use mathlib.Core.List.{List, ◌++◌}
use Prim.Native.Nat.{ℕ}
use native.Mathlib.Omega.{arith}
use lib.ListN.{take}
use lib.Seq.{length-take-le}
use Rattle.words.specs.Bits.{IsBits}
use Rattle.words.specs.Time.{time_word}
use Rattle.tables.specs.declared.matrix.Subframe.TheVariants.{Two, Three}
use Rattle.parity.specs.Order.{interleaved}
use Rattle.frames.specs.Laws.Blocks.{made_block}
use Rattle.frames.proofs.build.Contents.write_frame.Goals as goal

pub write_symbols-requires : goal.write_symbols-requires
write_symbols-requires c =
    let two = c.args.two.now in (
      subst IsBits (sym c.complete.ensures)
          (made_block Two (take 576 two) (length-take-le 576 two (omega (arith, c.told-two))) c.requires.0).bits,
      subst IsBits (sym c.write_page_block.ensures) (made_block Three c.args.self.page.now c.args.self.whole c.args.self.bits).bits,
      c.requires.1,
    )

pub returns : goal.returns
returns c =
    c.write_symbols.ensures
    ∙ ap₂ (λ (b2 b3 : List ℕ). time_word c.args.self.toi ++ interleaved (b2 ++ b3)) c.complete.ensures c.write_page_block.ensures
