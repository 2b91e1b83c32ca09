-- `clock::clock::Term::count_of` meets its contract: each way out by its law of `clock.Laws`. Assumes nothing.
use Rattle.std.proofs.Common.{◌^◌, T, nat_abs, sym, ap, ◌∙◌, subst, arith, w64, to_z, of_z}
use lib.Ieee.{binary64, neg, of_bits, to_bits}
use lib.IntN.{ℤ}
use mir.ValLaws.{to_z-of_z}
use Rattle.fields.specs.Laws.Counts.{range_most}
use Rattle.clock.specs.Clock.{negative, term_of, signed_field}
use Rattle.clock.specs.Laws.Terms.{term_exact, range_53}
use Rattle.clock.proofs.clock.Laws.{scaled, narrow, no_nan, value_no_nan, out_low, out_high, out_width, out_bits, in_bits}
use Rattle.clock.proofs.clock.Term.count_of.Goals as goal
use Rattle.clock.proofs.clock.Term.count_of.Goals.{else-has_width-via-then-has_width+else-term_of-x, else-has_width-via-else-has_width}
use Rattle.clock.proofs.clock.Term.count_of.Goals.{else-y-via-then-y+else-y-2, else-y-via-else-y}

pub truncating_f64_to_i64-n-requires-clause-lower_bound : goal.truncating_f64_to_i64-n-requires-clause-lower_bound
unfolding of_bits neg
truncating_f64_to_i64-n-requires-clause-lower_bound c = subst T (sym c.if-y.true) tt

pub truncating_f64_to_i64-n-requires-clause-upper_bound : goal.truncating_f64_to_i64-n-requires-clause-upper_bound
unfolding of_bits
truncating_f64_to_i64-n-requires-clause-upper_bound c = subst T (sym c.if-y-2.true) tt

pub term_of-requires : goal.term_of-requires
term_of-requires c =
    let z : ℤ = to_z w64 (of_z w64 c.truncating_f64_to_i64-n.result) in
    let term = c.args.self in
    let fine = sym c.has_width.ensures ∙ c.if-has_width.true in
    omega (arith, range_most (signed_field term.width) z fine, narrow term.width term.has_digits term.few_digits)

pub float_to_bits-term_of : goal.float_to_bits-term_of
float_to_bits-term_of c =
    let z : ℤ = to_z w64 (of_z w64 c.truncating_f64_to_i64-n.result) in
    let term = c.args.self in
    let k = term.step in
    let fine = sym c.has_width.ensures ∙ c.if-has_width.true in
    let digits = range_53 (signed_field term.width) z (narrow term.width term.has_digits term.few_digits) fine in
    rw c.term_of.ensures (value_no_nan (term_of k z) (negative z) (nat_abs z) (2 ^ k) (term_exact k z digits (omega (arith, term.small_step))))

pub float_to_bits-x : goal.float_to_bits-x
float_to_bits-x c =
    no_nan (neg (of_bits binary64 4890909195324358656)) c.args.x c.power.result (subst T (sym c.if-y.true) tt)

pub returns-then-term_of-x : goal.returns-then-term_of-x
returns-then-term_of-x c =
    let made = scaled c.args.self (subst T (sym c.well_formed.1.0.1) tt) c.power.ensures in
    let fine = sym c.has_width.ensures ∙ c.if-has_width.true in
    sym (in_bits made _ fine (ap (to_bits binary64) (sym c.term_of.ensures) ∙ c.if-term_of-x.true))

pub returns-else-has_width : goal.returns-else-has_width
returns-else-has_width c =
    let made = scaled c.args.self (subst T (sym c.well_formed.1.0.1) tt) c.power.ensures in
    let n = c.truncating_f64_to_i64-n in
    let cut = to_z-of_z w64 n.result (record { sfits = n.type_inv }) ∙ n.ensures in
    sym (elim c.else-has_width.branch [
      | else-has_width-via-then-has_width+else-term_of-x w ↦
          out_bits made _ cut (λ e. w.if-term_of-x.false (ap (to_bits binary64) w.term_of.ensures ∙ e))
      | else-has_width-via-else-has_width w ↦ out_width made _ cut (sym c.has_width.ensures ∙ w.if-has_width.false)
    ])

pub returns-else-y : goal.returns-else-y
unfolding of_bits neg
returns-else-y c =
    let made = scaled c.args.self (subst T (sym c.well_formed.1.0.1) tt) c.power.ensures in
    sym (elim c.else-y.branch [
      | else-y-via-then-y+else-y-2 w ↦ out_high made w.if-y-2.false
      | else-y-via-else-y w ↦ out_low made w.if-y.false
    ])
