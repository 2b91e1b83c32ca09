-- Each table of the code lists the ones of the printed one, by computing.
use Rattle.std.proofs.Common.{◌≡◌, refl}
use Rattle.tables.specs.Coordinates.{ones, coordinates, of_sheets}
use Rattle.tables.specs.A2.{a2}
use Rattle.tables.specs.A3.{a3}
use Rattle.tables.specs.T2.{t2}
use Rattle.tables.specs.T3.{t3}
use Rattle.tables.specs.declared.a2.TheConstants.{A2}
use Rattle.tables.specs.declared.a3.TheConstants.{A3}
use Rattle.tables.specs.declared.t2.TheConstants.{T2}
use Rattle.tables.specs.declared.t3.TheConstants.{T3}
use Rattle.tables.proofs.matrix.ones_of.Goals as goal

the_a2 : ones A2 ≡ a2
unfolding ones coordinates of_sheets a2
the_a2 = refl

the_t2 : ones T2 ≡ t2
unfolding ones coordinates of_sheets t2
the_t2 = refl

the_a3 : ones A3 ≡ a3
unfolding ones coordinates of_sheets a3
the_a3 = refl

the_t3 : ones T3 ≡ t3
unfolding ones coordinates of_sheets t3
the_t3 = refl

pub returns-in-Two-A : goal.returns-in-Two-A
returns-in-Two-A c = rw (c.in-Two-A.is-0, c.in-Two-A.is-1) the_a2

pub returns-in-Two-T : goal.returns-in-Two-T
returns-in-Two-T c = rw (c.in-Two-T.is-0, c.in-Two-T.is-1) the_t2

pub returns-in-Three-A : goal.returns-in-Three-A
returns-in-Three-A c = rw (c.in-Three-A.is-0, c.in-Three-A.is-1) the_a3

pub returns-in-Three-T : goal.returns-in-Three-T
returns-in-Three-T c = rw (c.in-Three-T.is-0, c.in-Three-T.is-1) the_t3
