-- `words::bits::signed_of` meets its contract. Assumes nothing.
use mathlib.Core.Path.{◌≡◌, sym, ap, ◌∙◌}
use Prim.Native.Nat.{suc, ◌-◌, ◌%◌, ◌^◌}
use native.Mathlib.Omega.{arith}
use lib.IntN.{pos, negsuc}
use lib.ListN.{length, get_or}
use borrow.Author.Rules.{sfits_of}
use mir.Syntax.{w64}
use mir.ValLaws.{to_z-of_z}
use Rattle.words.specs.Bits.{value_of}
use Rattle.words.specs.Laws.Digits.{value_lt}
use Rattle.words.specs.Laws.Signs.{signed_one, signed_zero}
use Rattle.words.proofs.bits.Laws.{first_bit, signed_fits, signed_none}
use Rattle.words.proofs.bits.signed_of.Goals as goal

pub returns-in_default : goal.returns-in_default
returns-in_default c = signed_none c.args.bits.now c.in_default.ensures.value

pub overflow_sub-largest : goal.overflow_sub-largest
overflow_sub-largest c = omega (arith, value_lt c.args.bits.now, c.value_of-number.ensures, c.largest.ensures)

pub below_zero-requires : goal.below_zero-requires
below_zero-requires c =
    let l = c.args.bits.now in
    let one : get_or l 0 0 % 2 ≡ 1 = first_bit l c.in-Some.first.now c.in-Some.ensures.value ∙ sym c.low_bit-negative.ensures ∙ c.if-negative.true in
    omega (
      arith,
      rw (signed_one l one) at (signed_fits l c.requires),
      c.value_of-number.ensures,
      c.largest.ensures,
    )

pub not_below_zero-requires : goal.not_below_zero-requires
not_below_zero-requires c =
    let l = c.args.bits.now in
    let not_one : get_or l 0 0 % 2 ≡ 1 → ⊥ = λ e. c.if-negative.false (c.low_bit-negative.ensures ∙ sym (first_bit l c.in-Some.first.now c.in-Some.ensures.value) ∙ e) in
    omega (
      arith,
      rw (signed_zero l not_one) at (signed_fits l c.requires),
      c.value_of-number.ensures,
    )

pub returns-then-negative : goal.returns-then-negative
returns-then-negative c =
    let l = c.args.bits.now in
    let one : get_or l 0 0 % 2 ≡ 1 = first_bit l c.in-Some.first.now c.in-Some.ensures.value ∙ sym c.low_bit-negative.ensures ∙ c.if-negative.true in
    let rest : c.largest.result - c.value_of-number.result
    ≡ 2 ^ length l - suc (value_of l) =
    omega (arith, c.value_of-number.ensures, c.largest.ensures) in
    to_z-of_z w64 c.below_zero.result (sfits_of c.below_zero.type_inv) ∙ c.below_zero.ensures
    ∙ ap negsuc rest ∙ sym (signed_one l one)

pub returns-else-negative : goal.returns-else-negative
returns-else-negative c =
    let l = c.args.bits.now in
    let not_one : get_or l 0 0 % 2 ≡ 1 → ⊥ = λ e. c.if-negative.false (c.low_bit-negative.ensures ∙ sym (first_bit l c.in-Some.first.now c.in-Some.ensures.value) ∙ e) in
    to_z-of_z w64 c.not_below_zero.result (sfits_of c.not_below_zero.type_inv) ∙ c.not_below_zero.ensures
    ∙ ap pos c.value_of-number.ensures ∙ sym (signed_zero l not_one)
