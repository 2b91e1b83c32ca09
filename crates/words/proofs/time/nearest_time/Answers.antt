-- `words::time::nearest_time` meets its contract. The invariant: the word is that of the time, and the search from here is the whole search.
-- The next word comes by the table's rule, one computed test. Assumes nothing.
use mathlib.Core.Path.{refl, sym, ap, ap₂, ◌∙◌}
use Prim.Native.Nat.{◌+◌}
use native.Mathlib.Omega.{arith}
use lib.Bits.{bit_xor}
use Rattle.std.proofs.Common.{◌≡◌, rules}
use Rattle.words.specs.Refusal.{TIME, refused_at}
use Rattle.words.specs.Bits.{bits_of}
use Rattle.words.specs.Time.{time_is, nearest_time}
use Rattle.words.proofs.time.Laws.{turns, turn_at, packed_distance, packed_next, nearest_here, nearest_on, nearest_end, zero_packed}
use Rattle.words.proofs.time.nearest_time.Goals as goal

pub loop-toi-init : goal.loop-toi-init
loop-toi-init c = (zero_packed, refl)

pub returns-then-near : goal.returns-then-near
returns-then-near c =
    let loop = c.loop-toi in
    let n = c.args.symbols in
    let d = packed_distance n loop.toi loop.word c.requires loop.invariant.0 in
    ap (time_is loop.toi) d
    ∙ sym (nearest_here (bits_of 52 n) loop.toi (omega (arith, c.loop-toi-test.true)) (omega (arith, d, c.if-near.true))) ∙ loop.invariant.1

pub bounds-toi : goal.bounds-toi
bounds-toi c = (turn_at c.loop-toi.toi (omega (arith, c.loop-toi-test.true))).0

pub loop-toi-preserved : goal.loop-toi-preserved
unfolding turns
loop-toi-preserved c =
    let loop = c.loop-toi in
    let n = c.args.symbols in
    let d = packed_distance n loop.toi loop.word c.requires loop.invariant.0 in
    let turn = turn_at loop.toi (omega (arith, c.loop-toi-test.true)) in (
      ap₂ bit_xor loop.invariant.0 turn.1 ∙ packed_next loop.toi (loop.toi + 1),
      sym (nearest_on (bits_of 52 n) loop.toi (omega (arith, c.loop-toi-test.true)) (omega (arith, d, c.if-near.false))) ∙ loop.invariant.1,
    )

pub returns : goal.returns
returns c =
    let loop = c.loop-toi in
    let none : refused_at TIME 0 ≡ nearest_time 400 0 (bits_of 52 c.args.symbols) =
    sym (nearest_end (bits_of 52 c.args.symbols) loop.toi (omega (arith, c.loop-toi-test.false))) ∙ loop.invariant.1 in
    search (rules, none)
