-- `clock::clock::counts_of` meets its contract: each way out by its law of `clock.Rows`. Assumes nothing.
use Rattle.std.proofs.Common.{◌≡◌, Err, sym, ◌∙◌, rules, w64}
use mir.ValLaws.{to_z-of_z}
use Rattle.clock.proofs.clock.Rows.{back0, back1, back2, all_back}
use Rattle.clock.proofs.clock.counts_of.Goals as goal

pub returns-in_err-take_back : goal.returns-in_err-take_back
returns-in_err-take_back c =
    let refused : c.from_residual.result ≡ Err c.in_err-take_back.field-0.0 = search rules in
    refused ∙ sym (back0 c.args.clock (sym c.take_back.ensures ∙ c.in_err-take_back.was))

pub returns-in_err-take_back-2 : goal.returns-in_err-take_back-2
returns-in_err-take_back-2 c =
    let refused : c.from_residual-in_err-take_back-2.result ≡ Err c.in_err-take_back-2.field-0.0 = search rules in
    refused
    ∙ sym
    (back1 c.args.clock (sym c.take_back.ensures ∙ c.in_ok-take_back.was) (sym c.take_back-2.ensures ∙ c.in_err-take_back-2.was))

pub returns-in_err-take_back-3 : goal.returns-in_err-take_back-3
returns-in_err-take_back-3 c =
    let refused : c.from_residual-in_err-take_back-3.result ≡ Err c.in_err-take_back-3.field-0.0 = search rules in
    refused
    ∙ sym
    (back2 c.args.clock (sym c.take_back.ensures ∙ c.in_ok-take_back.was) (sym c.take_back-2.ensures ∙ c.in_ok-take_back-2.was)
    (sym c.take_back-3.ensures ∙ c.in_err-take_back-3.was))

pub returns : goal.returns
returns c =
    rw (
      to_z-of_z w64 c.in_ok-take_back.field-0 (search rules),
      to_z-of_z w64 c.in_ok-take_back-2.field-0 (search rules),
      to_z-of_z w64 c.in_ok-take_back-3.field-0 (search rules),
    )
    (sym
    (all_back c.args.clock (sym c.take_back.ensures ∙ c.in_ok-take_back.was) (sym c.take_back-2.ensures ∙ c.in_ok-take_back-2.was)
    (sym c.take_back-3.ensures ∙ c.in_ok-take_back-3.was)))
