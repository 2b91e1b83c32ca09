-- `words::crc::feed` meets its contract. Assumes nothing.
use mathlib.Core.Path.{sym, ap, ◌∙◌}
use Prim.Native.Nat.{ℕ, ◌+◌, ◌*◌}
use native.Mathlib.Omega.{arith}
use lib.Bits.{bit_xor}
use Rattle.words.specs.Crc.{poly}
use Rattle.words.specs.Laws.Crc.{fed_low, fed_high}
use Rattle.words.proofs.crc.feed.Goals as goal

pub returns-then-longer-lt16777216 : goal.returns-then-longer-lt16777216
returns-then-longer-lt16777216 c =
    let a = c.args in
    ap (λ (b : ℕ). a.register * 2 + b) c.from.ensures
    ∙ sym (fed_low a.register a.bit (omega (arith, c.from.ensures, c.if-longer-lt16777216.true)))

pub returns-else-longer-lt16777216 : goal.returns-else-longer-lt16777216
returns-else-longer-lt16777216 c =
    let a = c.args in
    ap (λ (b : ℕ). bit_xor (a.register * 2 + b) poly) c.from.ensures
    ∙ sym (fed_high a.register a.bit c.requires (omega (arith, c.from.ensures, c.if-longer-lt16777216.false)))
