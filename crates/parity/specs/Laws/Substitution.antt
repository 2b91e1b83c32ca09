-- Forward substitution over T: it solves the rows, and the solution is the only one.
-- Assumes nothing.
use Rattle.std.specs.Prelude.{◌≡◌, refl, ◌≢◌, List, ℕ, ◌+◌, ◌-◌, ◌%◌, ◌≤◌, ◌<◌, length, get_or, set}
use Rattle.std.proofs.Common.{sym, ◌∙◌, ap, ⊎_elim, arith, length-set, get_or-set_same, get_or-set_other, eq-eqb, ne_eqb}
use Rattle.std.specs.Int.Bits.{bit_xor}
use Rattle.words.specs.Bits.{IsBits}
use Rattle.tables.specs.Coordinates.{Coordinate, symbol_at, row_sum, added_at, substituted, solved}
use Rattle.tables.specs.Rules.{ByColumns, finished, next_diagonal, beneath}
use Rattle.tables.specs.Laws.Cases.{same_or_not}
use Rattle.parity.specs.Laws.Rows.{xor_parity, sum_same, sum_other}

-- a row that is done has no one any more
no_row : (n : ℕ) {d : ℕ} {m : List Coordinate} → ByColumns n d m → (s : List ℕ) (r : ℕ) → r ≤ d → row_sum m s r ≡ 0
unfolding row_sum
no_row n (finished e) s r h = refl
no_row n (next_diagonal {d} {i} {j} {m} ei ej t) s r h = sum_other i j m s r (omega arith) ∙ no_row n t s r (omega arith)
no_row n (beneath {d} {i} {j} {m} one seen low most t) s r h = sum_other i j m s r (omega arith) ∙ no_row n t s r h

done_le : (n : ℕ) {d : ℕ} {m : List Coordinate} → ByColumns n d m → d ≤ n
done_le n (finished e) = omega arith
done_le n (next_diagonal ei ej t) = omega (arith, done_le n t)
done_le n (beneath one seen low most t) = done_le n t

-- ---- the solution is the only one

-- what holds below d, and at d, holds below d + 1
one_more : (P : ℕ → Type 0) (d : ℕ) → ((k : ℕ) → k < d → P k) → P d → (k : ℕ) → k < d + 1 → P k
one_more P d f p k h = ⊎_elim (λ e. rw e p) (λ ne. f k (omega arith)) (same_or_not k d)

-- two lists of bits that agree in the rows that are done, and whose row sums agree modulo 2, agree
pub same_solution : (n : ℕ) {d : ℕ} {m : List Coordinate} → ByColumns n d m → (x y : List ℕ) → IsBits x → IsBits y
    → ((k : ℕ) → k < d → get_or x k 0 ≡ get_or y k 0)
    → ((r : ℕ) → d < r → r ≤ n → row_sum m x r % 2 ≡ row_sum m y r % 2)
    → (k : ℕ) → k < n → get_or x k 0 ≡ get_or y k 0
same_solution n (finished e) x y bx by same rows = λ k h. same k (omega arith)
same_solution n (next_diagonal {d} {i} {j} {m} ei ej t) x y bx by same rows =
    same_solution n t x y bx by (one_more (λ k. get_or x k 0 ≡ get_or y k 0) d same here)
    (λ r lo hi. rw (← sum_other i j m x r (omega arith), ← sum_other i j m y r (omega arith)) (rows r (omega arith) hi))
  where
    last : j - 1 ≡ d
    last = omega arith

    here : get_or x d 0 ≡ get_or y d 0
    here =
        rw (← last)
        (omega (
          arith,
          rows (d + 1) (omega arith) (done_le n t),
          sum_same i j m x (d + 1) ei,
          sum_same i j m y (d + 1) ei,
          no_row n t x (d + 1) (omega arith),
          no_row n t y (d + 1) (omega arith),
          bx.bit (j - 1),
          by.bit (j - 1),
        ))
same_solution n (beneath {d} {i} {j} {m} one seen low most t) x y bx by same rows =
    same_solution n t x y bx by same
    (λ r lo hi. ⊎_elim
    (λ e. omega (arith, rows r lo hi, sum_same i j m x r e, sum_same i j m y r e, same (j - 1) (omega arith)))
    (λ ne. omega (arith, rows r lo hi, sum_other i j m x r ne, sum_other i j m y r ne))
    (same_or_not i r))

-- ---- substitution solves the rows

on_diagonal : (y : List ℕ) (i j : ℕ) → i ≡ j → substituted y i j ≡ y
on_diagonal y i j e = rw (eq-eqb i j e)

under_diagonal : (y : List ℕ) (i j : ℕ) → i ≢ j → substituted y i j ≡ added_at y i (symbol_at y j)
under_diagonal y i j e = rw (ne_eqb i j e)

-- the unknowns of the rows that are done stay
solved_kept : (n : ℕ) {d : ℕ} {m : List Coordinate} → ByColumns n d m → (y : List ℕ) (k : ℕ) → k < d
    → get_or (solved m y) k 0 ≡ get_or y k 0
unfolding solved
solved_kept n (finished e) y k h = refl
solved_kept n (next_diagonal {d} {i} {j} {m} ei ej t) y k h =
    rw (on_diagonal y i j (omega arith)) (solved_kept n t y k (omega arith))
solved_kept n (beneath {d} {i} {j} {m} one seen low most t) y k h =
    rw (under_diagonal y i j (omega arith))
    (solved_kept n t _ k h ∙ get_or-set_other y (i - 1) k (bit_xor (symbol_at y i) (symbol_at y j)) 0 (omega arith))

-- T times what it gives is what it was given, row by row, modulo 2
pub solved_right : (n : ℕ) {d : ℕ} {m : List Coordinate} → ByColumns n d m → (y : List ℕ) → length y ≡ n
    → (r : ℕ) → d < r → r ≤ n → row_sum m (solved m y) r % 2 ≡ symbol_at y r % 2
unfolding solved
solved_right n (finished e) y ly r lo hi = absurd (omega arith)
solved_right n (next_diagonal {d} {i} {j} {m} ei ej t) y ly r lo hi =
    rw (on_diagonal y i j (omega arith))
    (⊎_elim
    (λ (e : i ≡ r). omega (
      arith,
      sum_same i j m (solved m y) r e,
      no_row n t (solved m y) r (omega arith),
      solved_kept n t y (j - 1) (omega arith),
      ap (λ (k : ℕ). get_or y (k - 1) 0) e,
      ap (λ (k : ℕ). get_or y (k - 1) 0) (ei ∙ sym ej),
    ))
    (λ (ne : i ≢ r). omega (arith, sum_other i j m (solved m y) r ne, solved_right n t y ly r (omega arith) hi))
    (same_or_not i r))
solved_right n (beneath {d} {i} {j} {m} one seen low most t) y ly r lo hi =
    let v : ℕ = bit_xor (symbol_at y i) (symbol_at y j) in
    let y' : List ℕ = set y (i - 1) v in
    let rest : row_sum m (solved m y') r % 2 ≡ symbol_at y' r % 2 = solved_right n t y' (length-set y (i - 1) v ∙ ly) r lo hi in
    rw (under_diagonal y i j (omega arith))
    (⊎_elim
    (λ (e : i ≡ r). omega (
      arith,
      rest,
      sum_same i j m (solved m y') r e,
      solved_kept n t y' (j - 1) (omega arith),
      get_or-set_other y (i - 1) (j - 1) v 0 (omega arith),
      get_or-set_same y (i - 1) v 0 (omega arith),
      xor_parity (symbol_at y i) (symbol_at y j),
      ap (λ (k : ℕ). get_or y (k - 1) 0) e,
      ap (λ (k : ℕ). get_or y' (k - 1) 0) e,
    ))
    (λ (ne : i ≢ r). omega (
      arith,
      rest,
      sum_other i j m (solved m y') r ne,
      get_or-set_other y (i - 1) (r - 1) v 0 (omega arith),
    ))
    (same_or_not i r))
