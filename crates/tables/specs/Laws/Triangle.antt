-- What T's order of listing says of its diagonal and of what lies above it.
-- Assumes nothing.
use Rattle.std.specs.Prelude.{◌≡◌, List, ◌≢◌, ℕ, ◌+◌, ◌≤◌, ◌<◌}
use Rattle.std.proofs.Common.{⊎_elim, arith}
use Rattle.tables.specs.Coordinates.{Coordinate}
use Rattle.tables.specs.Rules.{HasOne, at_first, at_later, ByColumns, finished, next_diagonal, beneath}
use Rattle.tables.specs.Laws.Cases.{same_or_not}

pub on_diagonal : (n : ℕ) {d : ℕ} {m : List Coordinate} → ByColumns n d m → (k : ℕ) → d < k → k ≤ n → HasOne k k m
on_diagonal n (finished e) k lo hi = absurd (omega arith)
on_diagonal n (next_diagonal {d} ei ej t) k lo hi =
    ⊎_elim (λ (e : k ≡ d + 1). at_first (omega arith) (omega arith)) (λ (ne : k ≢ d + 1). at_later (on_diagonal n t k (omega arith) hi))
    (same_or_not k (d + 1))
on_diagonal n (beneath one seen low most t) k lo hi = at_later (on_diagonal n t k lo hi)

pub none_over : (n i j : ℕ) {d : ℕ} {m : List Coordinate} → ByColumns n d m → HasOne i j m → j ≤ i
none_over n i j (finished {d = d} _) x5 = elim x5 [ ]
none_over n i j (next_diagonal ei ej t) (at_first a b) = omega arith
none_over n i j (next_diagonal ei ej t) (at_later o) = none_over n i j t o
none_over n i j (beneath one seen low most t) (at_first a b) = omega arith
none_over n i j (beneath one seen low most t) (at_later o) = none_over n i j t o
