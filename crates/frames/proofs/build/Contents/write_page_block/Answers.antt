-- `frames::build::Contents::write_page_block` meets its contract. Assumes nothing.
use mathlib.Core.Path.{sym, ap, ◌∙◌, subst}
use Rattle.words.specs.Bits.{IsBits}
use Rattle.tables.specs.declared.matrix.Subframe.TheVariants.{Three}
use Rattle.frames.specs.Frame.{subframe_of}
use Rattle.frames.proofs.build.Laws.{page_in_front, still_548}
use Rattle.frames.proofs.build.Contents.write_page_block.Goals as goal

pub complete-requires : goal.complete-requires
complete-requires c =
    let page = c.args.self.page.now in
    let three = c.args.three.now in
    let d = c.copy_from_slice.new.self in (
      still_548 page three d c.args.self.whole c.told-three c.copy_from_slice.ensures.after,
      subst IsBits (sym (page_in_front page three d c.args.self.whole c.told-three c.copy_from_slice.ensures.after)) c.args.self.bits,
    )

pub returns : goal.returns
returns c =
    c.complete.ensures
    ∙ ap (subframe_of Three)
    (page_in_front c.args.self.page.now c.args.three.now c.copy_from_slice.new.self c.args.self.whole c.told-three c.copy_from_slice.ensures.after)
