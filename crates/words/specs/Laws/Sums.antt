-- Sums modulo 2 of lists of symbols, and the number of places that differ.
-- Assumes nothing.
use Rattle.std.specs.Prelude.{◌≡◌, refl, Bool, true, false, cond, List, [], ◌∷◌, ◌++◌, ℕ, zero, suc, ◌+◌, ◌%◌, ◌≤◌, ◌<◌, eqb, length, get_or, replicate}
use Rattle.std.proofs.Common.{sym, ap, ap₂, ◌∙◌, zero-le, arith, eqb-true, eq-eqb, ne_eqb}
use Rattle.std.proofs.Math.Nat.{suc_inj}
use Rattle.std.proofs.lemmas.Bool.{eqb-false}
use Rattle.words.specs.Bits.{IsBits}
use Rattle.words.specs.Sums.{add2, sums, differs, differing, weight}
use Rattle.words.specs.Laws.Digits.{first_is_bit, other_bits, no_bits, more_bits}

-- ---- two symbols

pub add2_swap : (a b c d : ℕ) → add2 (add2 a b) (add2 c d) ≡ add2 (add2 a c) (add2 b d)
add2_swap a b c d = flat a b c d ∙ ap (λ (x : ℕ). x % 2) (omega arith) ∙ sym (flat a c b d)
  where
    flat : (p q r s : ℕ) → add2 (add2 p q) (add2 r s) ≡ (p + q + (r + s)) % 2
    flat p q r s = omega arith

pub add2_left : (x y : ℕ) → add2 x y ≡ add2 (x % 2) y
add2_left x y = omega arith

pub add2_right : (x y : ℕ) → add2 x y ≡ add2 x (y % 2)
add2_right x y = omega arith

pub add2_assoc : (a b c : ℕ) → add2 (add2 a b) c ≡ add2 a (add2 b c)
add2_assoc a b c = sym (add2_left (a + b) c) ∙ ap (λ (x : ℕ). x % 2) (omega arith) ∙ add2_right a (b + c)

differs_bits : (x y : ℕ) → x < 2 → y < 2 → differs x y ≡ add2 x y
differs_bits zero zero hx hy = refl
differs_bits zero (suc zero) hx hy = refl
differs_bits zero (suc (suc y)) hx hy = absurd (omega arith)
differs_bits (suc zero) zero hx hy = refl
differs_bits (suc zero) (suc zero) hx hy = refl
differs_bits (suc zero) (suc (suc y)) hx hy = absurd (omega arith)
differs_bits (suc (suc x)) y hx hy = absurd (omega arith)

differs_eq : (x y : ℕ) → x ≡ y → differs x y ≡ 0
differs_eq x y e = ap (λ (t : Bool). cond t 0 1) (eq-eqb x y e)

differs_ne : (x y : ℕ) → (x ≡ y → ⊥) → differs x y ≡ 1
differs_ne x y e = ap (λ (t : Bool). cond t 0 1) (ne_eqb x y e)

differs_comm : (x y : ℕ) → differs x y ≡ differs y x
differs_comm x y = go (eqb x y) refl
  where
    go : (t : Bool) → eqb x y ≡ t → differs x y ≡ differs y x
    go true e = differs_eq x y (eqb-true x y e) ∙ sym (differs_eq y x (sym (eqb-true x y e)))
    go false e = differs_ne x y (eqb-false x y e) ∙ sym (differs_ne y x (λ q. eqb-false x y e (sym q)))

-- the three sides of a triangle, at one place
differs_triangle : (x y z : ℕ) → differs x z ≤ differs x y + differs y z
differs_triangle x y z = go (eqb x y) (eqb y z) (eqb x z) refl refl refl
  where
    go : (p q r : Bool) → eqb x y ≡ p → eqb y z ≡ q → eqb x z ≡ r → cond r 0 1 ≤ cond p 0 1 + cond q 0 1
    go p q true e f g = zero-le
    go true true false e f g = absurd (eqb-false x z g (eqb-true x y e ∙ eqb-true y z f))
    go true false false e f g = omega arith
    go false true false e f g = omega arith
    go false false false e f g = omega arith

-- ---- sums of lists

pub length_sums : (a b : List ℕ) → length a ≡ length b → length (sums a b) ≡ length a
length_sums [] b e = refl
length_sums (x ∷ a) [] e = absurd (omega arith)
length_sums (x ∷ a) (y ∷ b) e = ap suc (length_sums a b (suc_inj e))

pub sums_at : (a b : List ℕ) → length a ≡ length b → (k : ℕ) → get_or (sums a b) k 0 ≡ add2 (get_or a k 0) (get_or b k 0)
sums_at [] [] e k = refl
sums_at [] (y ∷ b) e k = absurd (omega arith)
sums_at (x ∷ a) [] e k = absurd (omega arith)
sums_at (x ∷ a) (y ∷ b) e zero = refl
sums_at (x ∷ a) (y ∷ b) e (suc k) = sums_at a b (suc_inj e) k

pub sums_are : (a b : List ℕ) → IsBits (sums a b)
sums_are [] b = no_bits
sums_are (x ∷ a) [] = no_bits
sums_are (x ∷ a) (y ∷ b) = more_bits (omega arith) (sums_are a b)

pub sums_append : (a b c d : List ℕ) → length a ≡ length b → sums (a ++ c) (b ++ d) ≡ sums a b ++ sums c d
sums_append [] [] c d e = refl
sums_append [] (y ∷ b) c d e = absurd (omega arith)
sums_append (x ∷ a) [] c d e = absurd (omega arith)
sums_append (x ∷ a) (y ∷ b) c d e = ap (λ (l : List ℕ). add2 x y ∷ l) (sums_append a b c d (suc_inj e))

pub sums_zeros : (l : List ℕ) → IsBits l → sums (replicate (length l) 0) l ≡ l
sums_zeros [] h = refl
sums_zeros (x ∷ l) h = ap₂ (λ (n : ℕ) (m : List ℕ). n ∷ m) (omega (arith, first_is_bit h)) (sums_zeros l (other_bits h))

-- ---- how many places differ

-- two lists of bits differ in as many places as their sum has ones
pub differing_weight : (a b : List ℕ) → length a ≡ length b → IsBits a → IsBits b → differing a b ≡ weight (sums a b)
differing_weight [] [] e ha hb = refl
differing_weight [] (y ∷ b) e ha hb = absurd (omega arith)
differing_weight (x ∷ a) [] e ha hb = absurd (omega arith)
differing_weight (x ∷ a) (y ∷ b) e ha hb =
    ap₂ (λ (m n : ℕ). m + n) (differs_bits x y (first_is_bit ha) (first_is_bit hb))
    (differing_weight a b (suc_inj e) (other_bits ha) (other_bits hb))

pub differing_comm : (a b : List ℕ) → differing a b ≡ differing b a
differing_comm [] [] = refl
differing_comm [] (y ∷ b) = refl
differing_comm (x ∷ a) [] = refl
differing_comm (x ∷ a) (y ∷ b) = ap₂ (λ (m n : ℕ). m + n) (differs_comm x y) (differing_comm a b)

pub triangle : (a b c : List ℕ) → length a ≡ length b → length b ≡ length c
    → differing a c ≤ differing a b + differing b c
triangle [] [] [] e f = omega arith
triangle [] [] (z ∷ c) e f = absurd (omega arith)
triangle [] (y ∷ b) c e f = absurd (omega arith)
triangle (x ∷ a) [] c e f = absurd (omega arith)
triangle (x ∷ a) (y ∷ b) [] e f = absurd (omega arith)
triangle (x ∷ a) (y ∷ b) (z ∷ c) e f = omega (arith, differs_triangle x y z, triangle a b c (suc_inj e) (suc_inj f))

-- lists that differ in no place are equal
pub differing_none : (a b : List ℕ) → differing a b ≡ 0 → a ≡ b
differing_none [] [] e = refl
differing_none [] (y ∷ b) e = absurd (omega arith)
differing_none (x ∷ a) [] e = absurd (omega arith)
differing_none (x ∷ a) (y ∷ b) e =
    ap₂ (λ (n : ℕ) (l : List ℕ). n ∷ l) (go (eqb x y) refl (omega arith)) (differing_none a b (omega arith))
  where
    go : (t : Bool) → eqb x y ≡ t → ◌≡◌ {A = ℕ} (cond t 0 1) 0 → x ≡ y
    go true e f = eqb-true x y e
    go false e f = absurd (omega arith)

-- a list with flags added differs from it where a flag is set
pub turned_differ : (a t : List ℕ) → length a ≡ length t → IsBits a → IsBits t → differing (sums a t) a ≡ weight t
turned_differ [] [] e ha ht = refl
turned_differ [] (y ∷ t) e ha ht = absurd (omega arith)
turned_differ (x ∷ a) [] e ha ht = absurd (omega arith)
turned_differ (x ∷ a) (y ∷ t) e ha ht =
    ap₂ (λ (m n : ℕ). m + n) (one x y (first_is_bit ha) (first_is_bit ht)) (turned_differ a t (suc_inj e) (other_bits ha) (other_bits ht))
  where
    one : (x y : ℕ) → x < 2 → y < 2 → differs (add2 x y) x ≡ y
    one zero zero hx hy = refl
    one zero (suc zero) hx hy = refl
    one (suc zero) zero hx hy = refl
    one (suc zero) (suc zero) hx hy = refl
    one zero (suc (suc y)) hx hy = absurd (omega arith)
    one (suc zero) (suc (suc y)) hx hy = absurd (omega arith)
    one (suc (suc x)) y hx hy = absurd (omega arith)

-- a list differs from itself nowhere, and two that are put together where their parts do
pub differing_self : (l : List ℕ) → differing l l ≡ 0
differing_self [] = refl
differing_self (x ∷ l) = let same : differs x x ≡ 0 = rw (eq-eqb x x refl) refl in omega (arith, differing_self l)

pub differing_append : (a b c d : List ℕ) → length a ≡ length c → differing (a ++ b) (c ++ d) ≡ differing a c + differing b d
differing_append [] b [] d e = omega arith
differing_append [] b (y ∷ c) d e = absurd (omega arith)
differing_append (x ∷ a) b [] d e = absurd (omega arith)
differing_append (x ∷ a) b (y ∷ c) d e = omega (arith, differing_append a b c d (suc_inj e))
