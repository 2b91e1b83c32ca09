-- What is filled is the data symbols and their parity.
use Rattle.std.proofs.Common.{◌≡◌, ℕ, refl, sym, ap, ◌∙◌, take, eq-eqb}
use Rattle.words.specs.Bits.{first_not_bit}
use Rattle.words.specs.Laws.Turns.{bits_done}
use Rattle.tables.specs.Matrix.{matrix_of}
use Rattle.parity.specs.Equations.{data_of}
use Rattle.parity.specs.Fill.{with_parity}
use Rattle.parity.proofs.fill.fill_parity.Goals as goal

pub returns : goal.returns
unfolding with_parity
returns c =
    let M = matrix_of c.args.subframe in
    let x = c.args.block.now in
    let parts = c.split_at_mut-data.ensures in
    let same : c.split_at_mut-data.result.0.now ≡ data_of M x = parts.front ∙ ap (λ (n : ℕ). take n x) c.equations.ensures in
    let bits : first_not_bit (data_of M x) ≡ M.equations =
    ap first_not_bit (sym same) ∙ bits_done _ (sym c.judge_bits.ensures ∙ c.in_ok-judge_bits.was) ∙ parts.front_len ∙ c.equations.ensures in
    rw (sym c.is_block.ensures ∙ c.if-not-is_block.false, eq-eqb _ _ bits, c.put_parity.ensures, same) (refl, refl)
