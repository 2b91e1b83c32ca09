-- Symbols as characters, and back.
-- Assumes nothing.
use Rattle.std.specs.Prelude.{◌≡◌, refl, Bool, true, false, cond, List, [], ◌∷◌, ℕ, zero, suc, ◌+◌, ◌-◌, ◌≤◌, ◌<◌, leb, length, get_or}
use Rattle.std.proofs.Common.{ap, ap₂, arith, le-leb, leb-true}
use Rattle.std.proofs.Math.Bool.{and-eq-true_iff}
use Rattle.words.specs.Bits.{IsBits}
use Rattle.words.specs.Laws.Digits.{first_is_bit, other_bits, no_bits, more_bits}
use Rattle.programs.specs.Symbols.{ZERO, is_symbol, first_other, symbols_in, characters_of}

-- ---- lengths

pub symbols_long : (l : List ℕ) → length (symbols_in l) ≡ length l
unfolding symbols_in
symbols_long [] = refl
symbols_long (c ∷ l) = ap suc (symbols_long l)

pub characters_long : (l : List ℕ) → length (characters_of l) ≡ length l
unfolding characters_of
characters_long [] = refl
characters_long (b ∷ l) = ap suc (characters_long l)

pub other_le : (l : List ℕ) → first_other l ≤ length l
unfolding first_other
other_le [] = omega arith
other_le (c ∷ l) = go (is_symbol c) (other_le l)
  where
    go : (t : Bool) → first_other l ≤ length l → cond t (suc (first_other l)) 0 ≤ suc (length l)
    go true h = omega arith
    go false h = omega arith

-- ---- a character

pub symbol_is : (c : ℕ) → is_symbol c ≡ true → (ZERO ≤ c) × (c ≤ ZERO + 1)
symbol_is c e =
    let both = (and-eq-true_iff (leb ZERO c) (leb c (ZERO + 1))).0 e in
    (leb-true ZERO c both.0, leb-true c (ZERO + 1) both.1)

pub is_symbol_lem : (c : ℕ) → ZERO ≤ c → c ≤ ZERO + 1 → is_symbol c ≡ true
is_symbol_lem c low high = (and-eq-true_iff (leb ZERO c) (leb c (ZERO + 1))).1 (le-leb ZERO c low, le-leb c (ZERO + 1) high)

-- ---- characters that are all symbols

-- the first is one, and so are the others
all_head : (c : ℕ) (l : List ℕ) → first_other (c ∷ l) ≡ length (c ∷ l) → (is_symbol c ≡ true) × (first_other l ≡ length l)
unfolding first_other
all_head c l e = go (is_symbol c) e
  where
    go : (t : Bool) → cond t (suc (first_other l)) 0 ≡ suc (length l) → (t ≡ true) × (first_other l ≡ length l)
    go true h = (refl, omega arith)
    go false h = absurd (omega arith)

-- each of them is
pub all_at : (l : List ℕ) (i : ℕ) → first_other l ≡ length l → i < length l → is_symbol (get_or l i 0) ≡ true
all_at [] i e h = absurd (omega arith)
all_at (c ∷ l) zero e h = (all_head c l e).0
all_at (c ∷ l) (suc i) e h = all_at l i (all_head c l e).1 (omega arith)

-- they stand for bits
pub every_bit : (l : List ℕ) → first_other l ≡ length l → IsBits (symbols_in l)
unfolding symbols_in
every_bit [] e = no_bits
every_bit (c ∷ l) e =
    let both = all_head c l e in
    let is = symbol_is c both.0 in
    more_bits (omega (arith, is.0, is.1)) (every_bit l both.1)

-- and are those of these bits
pub characters_again : (l : List ℕ) → first_other l ≡ length l → characters_of (symbols_in l) ≡ l
unfolding symbols_in characters_of
characters_again [] e = refl
characters_again (c ∷ l) e =
    let both = all_head c l e in
    let back : ZERO + (c - ZERO) ≡ c = omega (arith, (symbol_is c both.0).0) in
    ap₂ (λ (x : ℕ) (y : List ℕ). x ∷ y) back (characters_again l both.1)

-- ---- bits as characters

pub characters_all : (l : List ℕ) → IsBits l → first_other (characters_of l) ≡ length (characters_of l)
unfolding characters_of first_other
characters_all [] bits = refl
characters_all (b ∷ l) bits =
    rw (is_symbol_lem (ZERO + b) (omega arith) (omega (arith, first_is_bit bits))) (ap suc (characters_all l (other_bits bits)))

pub symbols_again : (l : List ℕ) → symbols_in (characters_of l) ≡ l
unfolding characters_of symbols_in
symbols_again [] = refl
symbols_again (b ∷ l) = ap₂ (λ (x : ℕ) (y : List ℕ). x ∷ y) (let e : ZERO + b - ZERO ≡ b = omega arith in e) (symbols_again l)
