-- `programs::output::Output::put_number` meets its contract: a number of 64 bits has at most 20 digits. Assumes nothing.
use mathlib.Core.Path.{sym, ap, ◌∙◌}
use Rattle.std.proofs.Common.{◌≡◌, length, arith, rules}
use Rattle.std.specs.Prelude.{is_ok}
use Rattle.programs.specs.Output.{OUTPUT_BYTES}
use Rattle.programs.proofs.output.Laws.{digits_fit, digits_put}
use Rattle.programs.proofs.output.Output.put_number.Goals as goal

pub unwrap-requires : goal.unwrap-requires
unwrap-requires c =
    let self = c.args.self.now in
    let long : length self.bytes ≡ OUTPUT_BYTES = search rules in
    ap is_ok (c.write_decimal.ensures.0 ∙ digits_fit c.args.number self c.ranges.number.fits long c.requires)

pub overflow_add-self : goal.overflow_add-self
overflow_add-self c =
    let self = c.args.self.now in
    let long : length self.bytes ≡ OUTPUT_BYTES = search rules in
    let put = digits_put c.args.number self c.ranges.number.fits long c.requires _ c.write_decimal.new.out (sym c.unwrap.ensures ∙ c.write_decimal.ensures.0) c.write_decimal.ensures.1 in
    omega arith

pub returns : goal.returns
returns c =
    let self = c.args.self.now in
    let long : length self.bytes ≡ OUTPUT_BYTES = search rules in
    let put = digits_put c.args.number self c.ranges.number.fits long c.requires _ c.write_decimal.new.out (sym c.unwrap.ensures ∙ c.write_decimal.ensures.0) c.write_decimal.ensures.1 in
    record { few = put.1; size = put.0.0; bytes = put.0.1 }
