-- Row sums over the ones of a matrix, and what passes over the ones make of them.
-- Assumes nothing.
use Rattle.std.specs.Prelude.{◌≡◌, refl, Bool, true, false, cond, ◌≢◌, List, [], ◌∷◌, ℕ, zero, suc, ◌+◌, ◌-◌, ◌%◌, ◌≤◌, ◌<◌, eqb, length, get_or, set}
use Rattle.std.proofs.Common.{◌∙◌, ap, ⊎_elim, arith, length-set, get_or-set_same, get_or-set_other, eq-eqb, ne_eqb}
use Rattle.std.specs.Int.Bits.{bit_xor, xor_add_and}
use Rattle.std.proofs.lemmas.Nat.{xor_lt}
use Rattle.words.specs.Bits.{IsBits}
use Rattle.words.specs.Laws.Digits.{first_is_bit, other_bits, more_bits}
use Rattle.tables.specs.Coordinates.{Coordinate, rc, symbol_at, row_sum, added_at, added, substituted, solved}
use Rattle.tables.specs.Rules.{IsInside, at_first, at_later}
use Rattle.tables.specs.Laws.Cases.{same_or_not}

-- the parity of an exclusive or is that of the sum
pub xor_parity : (a b : ℕ) → bit_xor a b % 2 ≡ (a + b) % 2
xor_parity a b = omega (arith, xor_add_and a b)

xor_bit : (a b : ℕ) → a < 2 → b < 2 → bit_xor a b < 2
xor_bit a b ha hb = xor_lt 1 a b ha hb

-- ---- a one in the row, and one in another

pub sum_same : (i j : ℕ) (m : List Coordinate) (s : List ℕ) (r : ℕ) → i ≡ r → row_sum (rc i j ∷ m) s r ≡ symbol_at s j + row_sum m s r
unfolding row_sum
sum_same i j m s r e = rw (eq-eqb i r e)

pub sum_other : (i j : ℕ) (m : List Coordinate) (s : List ℕ) (r : ℕ) → i ≢ r → row_sum (rc i j ∷ m) s r ≡ row_sum m s r
unfolding row_sum
sum_other i j m s r e = rw (ne_eqb i r e) (omega arith)

-- ---- bits stay bits

set_bits : (l : List ℕ) (k v : ℕ) → IsBits l → v < 2 → IsBits (set l k v)
set_bits [] k v b h = b
set_bits (x ∷ l) zero v b h = more_bits h (other_bits b)
set_bits (x ∷ l) (suc k) v b h = more_bits (first_is_bit b) (set_bits l k v (other_bits b) h)

pub added_bits : (m : List Coordinate) (s acc : List ℕ) → IsBits s → IsBits acc → IsBits (added m s acc)
unfolding added
added_bits [] s acc bs ba = ba
added_bits (rc i j ∷ m) s acc bs ba =
    added_bits m s _ bs (set_bits acc (i - 1) _ ba (xor_bit _ _ (ba.bit (i - 1)) (bs.bit (j - 1))))

substituted_bits : (y : List ℕ) (i j : ℕ) → IsBits y → IsBits (substituted y i j)
substituted_bits y i j b = go (eqb i j)
  where
    go : (t : Bool) → IsBits (cond t y (added_at y i (symbol_at y j)))
    go true = b
    go false = set_bits y (i - 1) _ b (xor_bit _ _ (b.bit (i - 1)) (b.bit (j - 1)))

pub solved_bits : (m : List Coordinate) (y : List ℕ) → IsBits y → IsBits (solved m y)
unfolding solved
solved_bits [] y b = b
solved_bits (rc i j ∷ m) y b = solved_bits m _ (substituted_bits y i j b)

-- ---- inside

inside_rest : {n c i j : ℕ} {m : List Coordinate} → IsInside n c (rc i j ∷ m) → IsInside n c m
inside_rest h = record { inside = λ i j o. h.inside i j (at_later o) }

-- one pass adds to each row's sum the symbols at its ones, modulo 2
pub added_right : (n c : ℕ) (m : List Coordinate) → IsInside n c m → (s acc : List ℕ) → n ≤ length acc → (r : ℕ) → 1 ≤ r → r ≤ n
    → symbol_at (added m s acc) r % 2 ≡ (symbol_at acc r + row_sum m s r) % 2
unfolding added row_sum
added_right n c [] w s acc la r lo hi = omega arith
added_right n c (rc i j ∷ m) w s acc la r lo hi =
    let v : ℕ = bit_xor (symbol_at acc i) (symbol_at s j) in
    let at = w.inside i j (at_first refl refl) in
    let rest : symbol_at (added m s (set acc (i - 1) v)) r % 2 ≡ (symbol_at (set acc (i - 1) v) r + row_sum m s r) % 2
    = added_right n c m (inside_rest w) s (set acc (i - 1) v) (omega (arith, length-set acc (i - 1) v)) r lo hi in
    ⊎_elim
    (λ (e : i ≡ r). omega (
      arith,
      rest,
      sum_same i j m s r e,
      get_or-set_same acc (i - 1) v 0 (omega (arith, at)),
      xor_parity (symbol_at acc i) (symbol_at s j),
      ap (λ (v : ℕ). get_or acc (v - 1) 0) e,
      ap (λ (k : ℕ). get_or (set acc (i - 1) v) (k - 1) 0) e,
    ))
    (λ (ne : i ≢ r). omega (
      arith,
      rest,
      sum_other i j m s r ne,
      get_or-set_other acc (i - 1) (r - 1) v 0 (omega (arith, at)),
    ))
    (same_or_not i r)

-- ---- sums of lists

pub sum_zeros : (m : List Coordinate) (s : List ℕ) (r : ℕ) → ((k : ℕ) → get_or s k 0 ≡ 0) → row_sum m s r ≡ 0
unfolding row_sum
sum_zeros [] s r z = refl
sum_zeros (rc i j ∷ m) s r z =
    ⊎_elim (λ e. sum_same i j m s r e ∙ omega (arith, z (j - 1), sum_zeros m s r z))
    (λ ne. sum_other i j m s r ne ∙ sum_zeros m s r z) (same_or_not i r)

pub sum_linear : (m : List Coordinate) (z u v : List ℕ) (r : ℕ)
    → ((k : ℕ) → get_or z k 0 % 2 ≡ (get_or u k 0 + get_or v k 0) % 2)
    → row_sum m z r % 2 ≡ (row_sum m u r + row_sum m v r) % 2
unfolding row_sum
sum_linear [] z u v r h = refl
sum_linear (rc i j ∷ m) z u v r h =
    ⊎_elim
    (λ e. omega (
      arith,
      sum_same i j m z r e,
      sum_same i j m u r e,
      sum_same i j m v r e,
      h (j - 1),
      sum_linear m z u v r h,
    ))
    (λ ne. omega (
      arith,
      sum_other i j m z r ne,
      sum_other i j m u r ne,
      sum_other i j m v r ne,
      sum_linear m z u v r h,
    ))
    (same_or_not i r)
