-- `programs::output::refusal_output` meets its contract: numbers of 64 bits have at most 20 digits, so all of it has room. Assumes nothing.
use Rattle.std.proofs.Common.{ℕ, subst, arith}
use Rattle.sheets.specs.Number.{decimal}
use Rattle.programs.specs.Output.{refusal_text}
use Rattle.programs.specs.Laws.Output.{Adds, output_is}
use Rattle.programs.proofs.output.Laws.{refusal_added}
use Rattle.programs.proofs.output.refusal_output.Goals as goal

pub returns : goal.returns
returns c =
    let number = c.args.refusal.number in
    let place = c.args.refusal.place in
    let fresh = c.new-output in
    let numbered = subst (λ (n : ℕ). Adds c.put.new.self (decimal n) c.put_number.new.self) c.from.ensures
    (c.put_number.ensures.size, c.put_number.ensures.bytes) in
    let added = refusal_added number place fresh.result c.put.new.self c.put_number.new.self c.put-2.new.self c.put_number-2.new.self
    c.put-3.new.self (c.put.ensures.size, c.put.ensures.bytes) numbered
    (c.put-2.ensures.size, c.put-2.ensures.bytes) (c.put_number-2.ensures.size, c.put_number-2.ensures.bytes)
    (c.put-3.ensures.size, c.put-3.ensures.bytes) in
    output_is (refusal_text number place) fresh.result c.put-3.new.self fresh.ensures.size fresh.ensures.bytes added (omega arith)
