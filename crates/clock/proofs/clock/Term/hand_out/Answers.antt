-- `clock::clock::Term::hand_out` meets its contract. Assumes nothing.
use Rattle.std.proofs.Common.{sym, ◌∙◌, arith, w64, to_z, of_z}
use lib.IntN.{ℤ}
use Rattle.fields.specs.Laws.Counts.{range_most}
use Rattle.clock.specs.Clock.{signed_field}
use Rattle.clock.proofs.clock.Laws.{narrow}
use Rattle.clock.proofs.clock.Term.hand_out.Goals as goal

-- a count in the field's width has few enough digits
pub term_of-requires : goal.term_of-requires
term_of-requires c =
    let z : ℤ = to_z w64 (of_z w64 c.args.count) in
    let term = c.args.self in
    let fine = sym c.has_width.ensures ∙ c.if-not-has_width.false in
    omega (arith, range_most (signed_field term.width) z fine, narrow term.width term.has_digits term.few_digits)
