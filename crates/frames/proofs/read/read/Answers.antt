-- `frames::read::read` meets its contract. Assumes nothing.
use mathlib.Core.Path.{◌≡◌, sym, ◌∙◌}
use Rattle.tables.specs.declared.matrix.Subframe.TheVariants.{Two, Three}
use Rattle.frames.specs.Frame.{subframe_in}
use Rattle.frames.specs.Laws.Steps.{counts_from, page_from}
use Rattle.std.proofs.Common.{rules}
use Rattle.std.specs.Prelude.{Ok}
use Rattle.frames.specs.Read.{time_alone}
use Rattle.frames.proofs.read.Laws.{frame_made, frame_done}
use Rattle.frames.proofs.read.read.Goals as goal

pub returns : goal.returns
returns c =
    let f = c.args.frame.now in
    let t = c.in_ok-time.time in
    let found : time_alone f ≡ Ok t = search rules in
    let counts : counts_from (subframe_in Two f) ≡ Ok c.in_ok-counts.counts = search rules in
    let page : page_from (subframe_in Three f) ≡ Ok c.in_ok-page.page = search rules in
    sym (frame_made t (subframe_in Two f) (subframe_in Three f) _ _ counts page) ∙ frame_done f t found
