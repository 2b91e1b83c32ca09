-- `clock::clock::Term::has_width` meets its contract. Assumes nothing.
use Rattle.std.proofs.Common.{◌≡◌, ℕ, ◌-◌, ◌*◌, ◌%◌, ◌^◌, ◌&&◌, ltb, leb, ◌∙◌, one-mul, arith, pow_pos, shl_exact, w64, ltb-true, lt-ltb, le-leb, leb-true}
use lib.Signed.{mag}
use mir.ValLaws.{to_z-of_z}
use Rattle.words.specs.Laws.Tests.{same_test}
use Rattle.clock.proofs.clock.Term.has_width.Goals as goal

-- below 2 ^ k is from 0 to 2 ^ k - 1
below : (m k : ℕ) → ltb m (2 ^ k) ≡ (leb 0 m && leb m (2 ^ k - 1))
below m k =
    rw (le-leb 0 m (omega arith))
    (same_test (ltb m (2 ^ k)) (leb m (2 ^ k - 1))
    (λ h. le-leb m (2 ^ k - 1) (omega (arith, ltb-true m (2 ^ k) h)))
    (λ h. lt-ltb m (2 ^ k) (omega (arith, leb-true m (2 ^ k - 1) h, pow_pos k))))

pub returns : goal.returns
returns c =
    let w = c.args.self.width in
    let half : 1 * 2 ^ (w - 1) % 2 ^ 64 ≡ 2 ^ (w - 1) = shl_exact 1 (w - 1) 64 (omega arith) (omega arith) ∙ one-mul (2 ^ (w - 1)) in
    rw (half, c.magnitude.ensures, to_z-of_z w64 c.args.count c.ranges.count) (below (mag c.args.count) (w - 1))
