-- The numbers of a sheet and the contents of a frame (document 01, "The sheet" and "The frame").
-- Assumes nothing.
use Rattle.std.specs.Prelude.{◌≡◌, List, ◌∷◌, ℕ, ℤ, pos}
use Rattle.frames.specs.Frame.{Contents, GoodContents}

-- the numbers of a frame's contents, as a sheet has them: the time, then the counts
abbrev pub numbers_of : Contents → List ℤ
numbers_of c = pos c.toi ∷ c.counts

-- good contents of a frame that have these numbers and this page
pub record CarriedBy (zs : List ℤ) (page : List ℕ) : Type 0 where
  pub contents : Contents
  pub numbers : numbers_of contents ≡ zs
  pub page_agrees : contents.page ≡ page
  pub good : GoodContents contents
