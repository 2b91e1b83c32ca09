-- p1 and p2 are those of IS-GPS-800.
use Rattle.std.proofs.Common.{◌≡◌, ◌-◌, length, refl, arith}
use Rattle.tables.specs.Matrix.{matrix_of}
use Rattle.parity.specs.Fill.{data_sums, p2_from}
use Rattle.parity.specs.Laws.Passed.{zero_sums}
use Rattle.parity.proofs.fill.Laws.{set_one, p1_found}
use Rattle.parity.proofs.fill.put_parity.Goals as goal

pub returns : goal.returns
unfolding data_sums p2_from
returns c =
    let M = matrix_of c.args.subframe in
    let p1 = c.split_at_mut-p1.result.0.now in
    let p2 = c.split_at_mut-p1.result.1.now in
    let long : length p2 ≡ M.equations - 1 = omega (arith, c.split_at_mut-p1.ensures.back_len, c.requires.1) in
    rw (
      c.put_p2-2.ensures,
      c.add-2.ensures,
      set_one p1 c.p1_by.result c.split_at_mut-p1.ensures.front_len,
      c.p1_by.ensures,
      c.put_p2.ensures,
      c.add.ensures,
      zero_sums c.args.subframe (length p2) (omega arith),
      long,
      p1_found M c.args.symbols.now (data_sums M c.args.symbols.now) c.requires.0 refl,
    )
    refl
