-- `words::bits::holds_number` meets its contract. Assumes nothing.
use mathlib.Core.Path.{◌≡◌, sym, ap, ◌∙◌}
use Prim.Native.Nat.{ℕ, ◌*◌, ◌/◌, ◌^◌, ◌<◌}
use native.Mathlib.Nat.{div-eq_of_lt, mod-lt}
use native.Mathlib.Omega.{arith}
use lib.Dec.{eqb, ltb}
use lib.Pow.{pow_mono, pow_pos, split}
use borrow.Author.Tests.{le-leb, lt-ltb, ltb-true, eq-eqb, eqb-true}
use Rattle.words.specs.Laws.Tests.{same_test}
use Rattle.words.proofs.bits.holds_number.Goals as goal

pub returns-then-whole : goal.returns-then-whole
returns-then-whole c =
    let args = c.args in
    le-leb 64 args.width c.if-whole.true
    ∙ sym (lt-ltb args.number (2 ^ args.width) (omega (arith, pow_mono {i = 64} {j = args.width} c.if-whole.true, c.ranges.number.fits)))

pub returns-else-whole : goal.returns-else-whole
returns-else-whole c =
    let n = c.args.number in
    let p = 2 ^ c.args.width in
    same_test (eqb (n / p) 0) (ltb n p)
    (λ h. lt-ltb n p (small n c.args.width (eqb-true (n / p) 0 h)))
    (λ h. eq-eqb (n / p) 0 (div-eq_of_lt (ltb-true n p h)))
  where
    small : (n : ℕ) (w : ℕ) → n / 2 ^ w ≡ 0 → n < 2 ^ w
    small n w e = omega (arith, split n w, e, mod-lt n (pow_pos w), ap (λ (q : ℕ). q * 2 ^ w) e)
