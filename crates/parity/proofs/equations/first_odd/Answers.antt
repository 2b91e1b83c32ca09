use Rattle.std.proofs.Common.{◌≡◌, ◌≢◌, ◌%◌, ◌<◌, length, MatchOption, arith, rules, tests}
use Rattle.std.specs.List.{HoldsAt, AllWithin}
use Rattle.std.proofs.lemmas.Iterator.{IsFirst-from_position, YieldsList-from_slice}
use Rattle.parity.specs.Laws.Scan.{scan_none, scan_first}
use Rattle.parity.proofs.equations.first_odd.Goals.{After-position}
use Rattle.parity.proofs.equations.first_odd.Goals as goal

-- `position` gives the first odd sum
found : (c : After-position) → (let sums = c.args.sums.now in
    MatchOption c.position.result (AllWithin (λ x. x % 2 ≡ 0) sums 0 (length sums))
    (λ k. (k < length sums) × HoldsAt (λ x. x % 2 ≢ 0) sums k × AllWithin (λ x. x % 2 ≡ 0) sums 0 k))
found c =
    IsFirst-from_position _ _ _ (λ x. x % 2 ≢ 0) (λ x. x % 2 ≡ 0) c.position.ensures.ran (YieldsList-from_slice _ c.iter.ensures.rest)
    (λ x q k. search (rules, tests)) (λ x q k. search (rules, tests))

pub returns : goal.returns
returns c =
    let first = rw c.in_ok-k.was at (found (goal.at.returns c).After-position) in
    rw (scan_first c.args.sums.now c.in_ok-k.k first.0 (first.1 0) (λ i lt. first.2 i 0 (omega arith) lt)) (search rules)

pub returns-in_err-k : goal.returns-in_err-k
returns-in_err-k c =
    let none = rw c.in_err-k.was at (found (goal.at.returns-in_err-k c).After-position) in
    rw (scan_none c.args.sums.now (λ i lt. none i 0 (omega arith) lt)) (search rules)
