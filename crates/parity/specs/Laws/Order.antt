-- Symbols taken at places, one after another: how many and which, there and back, their bits and their sums; the two blocks, what
-- is judged of them, and their first byte that is no bit.
-- Assumes nothing.
use Rattle.std.specs.Prelude.{◌≡◌, Ok, Bool, true, false, cond, ◌&&◌, ltb, eqb, length, take, drop}
use Rattle.std.proofs.Math.Path.{refl, ap, ap₂}
use Rattle.std.proofs.Common.{sym, ◌∙◌, subst, take-append-drop, take_at, drop_at, ext_get_or, eqb-true, eq-eqb, lt-ltb}
use Rattle.std.proofs.Math.Bool.{and-eq-true_iff}
use mathlib.Core.List.{List, [], ◌∷◌, ◌++◌}
use Prim.Native.Nat.{ℕ, zero, suc, ◌+◌, ◌<◌}
use Rattle.std.proofs.Math.Nat.{suc_inj}
use native.Mathlib.Omega.{arith}
use Rattle.std.proofs.Math.ListN.{get_or}
use Rattle.words.specs.Bits.{IsBits, first_not_bit}
use Rattle.words.specs.Sums.{sums}
use Rattle.words.specs.Laws.Digits.{no_bits, more_bits}
use Rattle.words.specs.Laws.Sums.{sums_at}
use Rattle.parity.specs.Order.{SYMBOLS_2, SYMBOLS_3, SYMBOLS, leaves_at, symbols_at, deinterleaved, first_block, second_block, place_by, right_lengths, HaveLengths, order_answer, order_leaves}
use Rattle.words.specs.Refusal.{Done}

-- ---- symbols at places

module _ (p : ℕ → ℕ) (l : List ℕ) where
  pub length_symbols : (from n : ℕ) → length (symbols_at p l from n) ≡ n
  unfolding symbols_at
  length_symbols from zero = refl
  length_symbols from (suc n) = ap suc (length_symbols (suc from) n)

  pub symbols_at_lem : (from n k : ℕ) → k < n → get_or (symbols_at p l from n) k 0 ≡ get_or l (p (from + k)) 0
  unfolding symbols_at
  symbols_at_lem from zero k h = absurd (omega arith)
  symbols_at_lem from (suc n) zero h = ap (λ (j : ℕ). get_or l (p j) 0) (let e : from ≡ from + 0 = omega arith in e)
  symbols_at_lem from (suc n) (suc k) h =
      symbols_at_lem (suc from) n k (omega arith)
      ∙ ap (λ (j : ℕ). get_or l (p j) 0) (let e : suc from + k ≡ from + suc k = omega arith in e)

  pub symbols_append : (from m n : ℕ) → symbols_at p l from (m + n) ≡ symbols_at p l from m ++ symbols_at p l (from + m) n
  unfolding symbols_at
  symbols_append from zero n =
      ap₂ (symbols_at p l) (let e : from ≡ from + 0 = omega arith in e) (let e : 0 + n ≡ n = omega arith in e)
  symbols_append from (suc m) n =
      ap (symbols_at p l from) (let e : suc m + n ≡ suc (m + n) = omega arith in e)
      ∙ ap (λ (x : List ℕ). get_or l (p from) 0 ∷ x)
      (symbols_append (suc from) m n
      ∙ ap (λ (j : ℕ). symbols_at p l (suc from) m ++ symbols_at p l j n) (let e : suc from + m ≡ from + suc m = omega arith in e))

  -- where all are taken, the one at k
  pub symbols_whole : (k : ℕ) → k < SYMBOLS → get_or (symbols_at p l 0 SYMBOLS) k 0 ≡ get_or l (p k) 0
  symbols_whole k h =
      symbols_at_lem 0 SYMBOLS k h ∙ ap (λ (j : ℕ). get_or l (p j) 0) (let e : 0 + k ≡ k = omega arith in e)

  -- of bits they are bits
  pub symbols_are : IsBits l → (from n : ℕ) → IsBits (symbols_at p l from n)
  unfolding symbols_at
  symbols_are h from zero = no_bits
  symbols_are h from (suc n) = more_bits (h.bit (p from)) (symbols_are h (suc from) n)

-- of sums they are the sums
pub symbols_sums : (p : ℕ → ℕ) (a b : List ℕ) → length a ≡ length b → (from n : ℕ)
    → symbols_at p (sums a b) from n ≡ sums (symbols_at p a from n) (symbols_at p b from n)
unfolding symbols_at
symbols_sums p a b e from zero = refl
symbols_sums p a b e from (suc n) =
    ap₂ (λ (x : ℕ) (l : List ℕ). x ∷ l) (sums_at a b e (p from)) (symbols_sums p a b e (suc from) n)

-- taken at the places p, and then at places q from which p leads back, the symbols are as they were
pub places_back : (p q : ℕ → ℕ) → ((k : ℕ) → k < SYMBOLS → q k < SYMBOLS) → ((k : ℕ) → k < SYMBOLS → p (q k) ≡ k)
    → (l : List ℕ) → length l ≡ SYMBOLS → symbols_at q (symbols_at p l 0 SYMBOLS) 0 SYMBOLS ≡ l
places_back p q inside back l e =
    let s = symbols_at p l 0 SYMBOLS in
    let count = length_symbols q s 0 SYMBOLS in
    ext_get_or 0 (symbols_at q s 0 SYMBOLS) l (count ∙ sym e) (λ k h. at k (omega arith))
  where
    at : (k : ℕ) → k < SYMBOLS → get_or (symbols_at q (symbols_at p l 0 SYMBOLS) 0 SYMBOLS) k 0 ≡ get_or l k 0
    at k h =
        symbols_whole q (symbols_at p l 0 SYMBOLS) k h
        ∙ symbols_whole p l (q k) (inside k h)
        ∙ ap (λ (j : ℕ). get_or l j 0) (back k h)

-- asking for one place and then for the other
pub asked : (p : ℕ → ℕ) (k : ℕ) → k < SYMBOLS → place_by p k ≡ Ok (p k)
asked p k h = rw (lt-ltb k SYMBOLS h) refl

pub asked_back : (p q : ℕ → ℕ) (k : ℕ) → k < SYMBOLS → q k < SYMBOLS → p (q k) ≡ k
    → (place_by q k ≡ Ok (q k)) × (place_by p (q k) ≡ Ok k)
asked_back p q k h inside back = (asked q k h, asked p (q k) inside ∙ ap Ok back)

-- ---- the two blocks

blocks : (s : List ℕ) → deinterleaved s ≡ symbols_at leaves_at s 0 SYMBOLS_2 ++ symbols_at leaves_at s SYMBOLS_2 SYMBOLS_3
unfolding deinterleaved
blocks s = symbols_append leaves_at s 0 SYMBOLS_2 SYMBOLS_3

pub first_block_lem : (s : List ℕ) → symbols_at leaves_at s 0 SYMBOLS_2 ≡ first_block s
unfolding first_block
first_block_lem s =
    sym (ap (take SYMBOLS_2) (blocks s)
    ∙ take_at (symbols_at leaves_at s 0 SYMBOLS_2) (symbols_at leaves_at s SYMBOLS_2 SYMBOLS_3) SYMBOLS_2 (length_symbols leaves_at s 0 SYMBOLS_2))

pub second_block_lem : (s : List ℕ) → symbols_at leaves_at s SYMBOLS_2 SYMBOLS_3 ≡ second_block s
unfolding second_block
second_block_lem s =
    sym (ap (drop SYMBOLS_2) (blocks s)
    ∙ drop_at (symbols_at leaves_at s 0 SYMBOLS_2) (symbols_at leaves_at s SYMBOLS_2 SYMBOLS_3) SYMBOLS_2 (length_symbols leaves_at s 0 SYMBOLS_2))

-- their lengths and bits
pub blocks_fit : (s l : List ℕ) → length l ≡ SYMBOLS → HaveLengths (first_block s) (second_block s) l
blocks_fit s l e = record {
  two = sym (ap length (first_block_lem s)) ∙ length_symbols leaves_at s 0 SYMBOLS_2;
  three = sym (ap length (second_block_lem s)) ∙ length_symbols leaves_at s SYMBOLS_2 SYMBOLS_3;
  both = e;
}

pub blocks_are : (s : List ℕ) → IsBits s → IsBits (first_block s) × IsBits (second_block s)
blocks_are s h = (
  subst IsBits (first_block_lem s) (symbols_are leaves_at s h 0 SYMBOLS_2),
  subst IsBits (second_block_lem s) (symbols_are leaves_at s h SYMBOLS_2 SYMBOLS_3),
)

-- one after another they are the symbols
pub blocks_joined : (s : List ℕ) → first_block s ++ second_block s ≡ deinterleaved s
unfolding first_block second_block
blocks_joined s = take-append-drop SYMBOLS_2 (deinterleaved s)

-- ---- what is judged

pub lengths_fit : (b2 b3 s : List ℕ) → HaveLengths b2 b3 s → right_lengths (length b2) (length b3) (length s) ≡ true
lengths_fit b2 b3 s h =
    rw (eq-eqb (length b2) SYMBOLS_2 h.two, eq-eqb (length b3) SYMBOLS_3 h.three, eq-eqb (length s) SYMBOLS h.both) refl

pub lengths_found : (b2 b3 s : List ℕ) → right_lengths (length b2) (length b3) (length s) ≡ true → HaveLengths b2 b3 s
lengths_found b2 b3 s e =
    let first = (and-eq-true_iff (eqb (length b2) SYMBOLS_2) (eqb (length b3) SYMBOLS_3 && eqb (length s) SYMBOLS)).0 e in
    let rest = (and-eq-true_iff (eqb (length b3) SYMBOLS_3) (eqb (length s) SYMBOLS)).0 first.1 in
    record {
      two = eqb-true (length b2) SYMBOLS_2 first.0;
      three = eqb-true (length b3) SYMBOLS_3 rest.0;
      both = eqb-true (length s) SYMBOLS rest.1;
    }

pub lengths_wrong : (b2 b3 s : List ℕ) → (HaveLengths b2 b3 s → ⊥) → right_lengths (length b2) (length b3) (length s) ≡ false
lengths_wrong b2 b3 s h = go (right_lengths (length b2) (length b3) (length s)) refl
  where
    go : (t : Bool) → right_lengths (length b2) (length b3) (length s) ≡ t → t ≡ false
    go true e = absurd (h (lengths_found b2 b3 s e))
    go false e = refl

-- right lengths and bits alone: done, and the new bytes are left
pub done_answer : (lengths : Bool) (first_not : ℕ) → lengths ≡ true → first_not ≡ SYMBOLS → order_answer lengths first_not ≡ Done
done_answer lengths first_not e f = ap₂ order_answer e f

pub done_leaves : (lengths : Bool) (first_not : ℕ) (new l : List ℕ) → lengths ≡ true → first_not ≡ SYMBOLS
    → order_leaves lengths first_not new l ≡ new
done_leaves lengths first_not new l e f = ap₂ (λ (t : Bool) (k : ℕ). order_leaves t k new l) e f

-- ---- the first byte of two blocks that is no bit

pub not_bit_before : (a b : List ℕ) → (first_not_bit a ≡ length a → ⊥) → first_not_bit (a ++ b) ≡ first_not_bit a
unfolding first_not_bit
not_bit_before [] b h = absurd (h refl)
not_bit_before (x ∷ a) b h = go (ltb x 2) h (not_bit_before a b)
  where
    go : (t : Bool) → (cond t (suc (first_not_bit a)) 0 ≡ suc (length a) → ⊥)
        → ((first_not_bit a ≡ length a → ⊥) → first_not_bit (a ++ b) ≡ first_not_bit a)
        → cond t (suc (first_not_bit (a ++ b))) 0 ≡ cond t (suc (first_not_bit a)) 0
    go true h ih = ap suc (ih (λ e. h (ap suc e)))
    go false h ih = refl

pub not_bit_behind : (a b : List ℕ) → first_not_bit a ≡ length a → first_not_bit (a ++ b) ≡ length a + first_not_bit b
unfolding first_not_bit
not_bit_behind [] b e = omega arith
not_bit_behind (x ∷ a) b e = go (ltb x 2) e (not_bit_behind a b)
  where
    go : (t : Bool) → cond t (suc (first_not_bit a)) 0 ≡ suc (length a)
        → (first_not_bit a ≡ length a → first_not_bit (a ++ b) ≡ length a + first_not_bit b)
        → cond t (suc (first_not_bit (a ++ b))) 0 ≡ suc (length a) + first_not_bit b
    go true e ih = omega (arith, ih (suc_inj e))
    go false e ih = absurd (omega arith)
