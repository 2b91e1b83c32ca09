-- `clock::clock::clock_of` meets its contract: each way out by its law of `clock.Rows`. Assumes nothing.
use Rattle.std.proofs.Common.{◌≡◌, Err, sym, ◌∙◌, rules, w64}
use mir.ValLaws.{to_z-of_z}
use Rattle.clock.proofs.clock.Rows.{found, handed, out0, out1, out2, all_out}
use Rattle.clock.proofs.clock.clock_of.Goals as goal

pub returns-in_err-hand_out : goal.returns-in_err-hand_out
returns-in_err-hand_out c =
    let a = c.args in
    let same0 = to_z-of_z w64 a.af0 c.ranges.af0 in
    let refused : c.from_residual.result ≡ Err c.in_err-hand_out.field-0.0 = search rules in
    refused ∙ sym (out0 a.af0 a.af1 a.af2 (found (handed 26 471 35) same0 c.hand_out.ensures c.in_err-hand_out.was))

pub returns-in_err-hand_out-2 : goal.returns-in_err-hand_out-2
returns-in_err-hand_out-2 c =
    let a = c.args in
    let same0 = to_z-of_z w64 a.af0 c.ranges.af0 in
    let same1 = to_z-of_z w64 a.af1 c.ranges.af1 in
    let refused : c.from_residual-in_err-hand_out-2.result ≡ Err c.in_err-hand_out-2.field-0.0 = search rules in
    refused
    ∙ sym
    (out1 a.af0 a.af1 a.af2 (found (handed 26 471 35) same0 c.hand_out.ensures c.in_ok-hand_out.was)
    (found (handed 20 497 48) same1 c.hand_out-2.ensures c.in_err-hand_out-2.was))

pub returns-in_err-hand_out-3 : goal.returns-in_err-hand_out-3
returns-in_err-hand_out-3 c =
    let a = c.args in
    let same0 = to_z-of_z w64 a.af0 c.ranges.af0 in
    let same1 = to_z-of_z w64 a.af1 c.ranges.af1 in
    let same2 = to_z-of_z w64 a.af2 c.ranges.af2 in
    let refused : c.from_residual-in_err-hand_out-3.result ≡ Err c.in_err-hand_out-3.field-0.0 = search rules in
    refused
    ∙ sym
    (out2 a.af0 a.af1 a.af2 (found (handed 26 471 35) same0 c.hand_out.ensures c.in_ok-hand_out.was)
    (found (handed 20 497 48) same1 c.hand_out-2.ensures c.in_ok-hand_out-2.was)
    (found (handed 10 517 60) same2 c.hand_out-3.ensures c.in_err-hand_out-3.was))

pub returns : goal.returns
returns c =
    let a = c.args in
    let same0 = to_z-of_z w64 a.af0 c.ranges.af0 in
    let same1 = to_z-of_z w64 a.af1 c.ranges.af1 in
    let same2 = to_z-of_z w64 a.af2 c.ranges.af2 in
    sym
    (all_out a.af0 a.af1 a.af2 (found (handed 26 471 35) same0 c.hand_out.ensures c.in_ok-hand_out.was)
    (found (handed 20 497 48) same1 c.hand_out-2.ensures c.in_ok-hand_out-2.was)
    (found (handed 10 517 60) same2 c.hand_out-3.ensures c.in_ok-hand_out-3.was))
