-- What the proofs of `order` use: what a turn of a loop that writes symbols keeps.
-- Assumes nothing.
use Rattle.std.proofs.Common.{◌≡◌, refl, sym, ap, ap₂, ◌∙◌, Bool, true, false, List, ◌∷◌, ◌++◌, ℕ, suc, ◌+◌, ◌-◌, ◌≤◌, ◌<◌, eqb, length, get_or, take, set, add-one, arith, eqb-true, ne_eqb}
use Rattle.std.specs.Prelude.{⊤}
use Rattle.std.proofs.lemmas.Bool.{eqb-false}
use mathlib.Core.List.{append-nil}
use lib.Seq.{take-suc-set, append_snoc, take_all}
use Rattle.words.specs.Bits.{first_not_bit}
use Rattle.words.specs.Refusal.{LENGTH, NOT_A_BIT, left_if, left_by, refused_at, done_if, in_turn, Answer}
use Rattle.words.specs.Laws.Digits.{not_bit_le}
use Rattle.parity.specs.Order.{SYMBOLS_2, SYMBOLS_3, SYMBOLS, symbols_at, interleaved, right_lengths, HaveLengths, all_bits, bits_answer, order_answer, order_leaves, interleave_answer, interleave_bytes}
use Rattle.parity.specs.Laws.Order.{lengths_found, not_bit_before, not_bit_behind}

-- one more symbol written
pub symbols_more : (p : ℕ → ℕ) (l out : List ℕ) (at i n v : ℕ) → length out ≡ n → i < n → v ≡ get_or l (p at) 0
    → take (i + 1) (set out i v) ++ symbols_at p l (at + 1) (n - (i + 1)) ≡ take i out ++ symbols_at p l at (n - i)
unfolding symbols_at
symbols_more p l out at i n v count h e =
    let rest = symbols_at p l (suc at) (n - (i + 1)) in
    ap₂ (λ (k j : ℕ). take k (set out i v) ++ symbols_at p l j (n - (i + 1))) (add-one i) (add-one at)
    ∙ ap (λ (x : List ℕ). x ++ rest) (take-suc-set out i v (omega arith))
    ∙ append_snoc (take i out) v rest
    ∙ ap (λ (x : ℕ). take i out ++ x ∷ rest) e
    ∙ ap (λ (k : ℕ). take i out ++ symbols_at p l at k) (let e : suc (n - (i + 1)) ≡ n - i = omega arith in e)

-- all are written
pub symbols_done : (p : ℕ → ℕ) (l out whole : List ℕ) (at i n : ℕ) → length out ≡ n → n ≤ i
    → take i out ++ symbols_at p l at (n - i) ≡ whole → out ≡ whole
unfolding symbols_at
symbols_done p l out whole at i n count h e =
    sym (ap (λ (k : ℕ). take i out ++ symbols_at p l at k) (let e : n - i ≡ 0 = omega arith in e)
    ∙ append-nil (take i out) ∙ take_all i out (omega arith)) ∙ e

-- ---- what is judged

-- a block whose first symbol is the symbol at `before`
abbrev pub block_judged : ℕ → List ℕ → Answer
block_judged before l = done_if (eqb (first_not_bit l) (length l)) NOT_A_BIT (before + first_not_bit l)

-- the lengths, and then each block
abbrev pub turns : List ℕ → List ℕ → List ℕ → Answer
turns b2 b3 s =
    in_turn (done_if (right_lengths (length b2) (length b3) (length s)) LENGTH 0) (in_turn (block_judged 0 b2) (block_judged SYMBOLS_2 b3))

-- judging both blocks one after another is judging each in turn
both_judged : (b2 b3 : List ℕ) → length b2 ≡ SYMBOLS_2 → length b3 ≡ SYMBOLS_3
    → bits_answer (first_not_bit (b2 ++ b3)) ≡ in_turn (block_judged 0 b2) (block_judged SYMBOLS_2 b3)
both_judged b2 b3 two three = go (eqb (first_not_bit b2) (length b2)) refl (eqb (first_not_bit b3) (length b3)) refl
  where
    go : (t : Bool) → eqb (first_not_bit b2) (length b2) ≡ t → (u : Bool) → eqb (first_not_bit b3) (length b3) ≡ u
        → bits_answer (first_not_bit (b2 ++ b3))
        ≡ in_turn (done_if t NOT_A_BIT (0 + first_not_bit b2)) (done_if u NOT_A_BIT (SYMBOLS_2 + first_not_bit b3))
    go true e true f =
        ap bits_answer (not_bit_behind b2 b3 (eqb-true _ _ e) ∙ ap₂ (λ (m n : ℕ). m + n) two (eqb-true _ _ f ∙ three))
    go true e false f =
        let ne = eqb-false (first_not_bit b3) (length b3) f in
        rw (not_bit_behind b2 b3 (eqb-true _ _ e), two) (rw (ne_eqb (SYMBOLS_2 + first_not_bit b3) SYMBOLS (λ h. ne (omega arith))) refl)
    go false e u f =
        let ne = eqb-false (first_not_bit b2) (length b2) e in
        rw (not_bit_before b2 b3 ne, ne_eqb (first_not_bit b2) SYMBOLS (λ h. absurd (omega (arith, not_bit_le b2))))
        (ap (λ (n : ℕ). refused_at {A = ⊤} NOT_A_BIT n) (omega arith))

pub interleave_turns : (b2 b3 s : List ℕ)
    → (interleave_answer b2 b3 s ≡ turns b2 b3 s) × (interleave_bytes b2 b3 s ≡ left_by (turns b2 b3 s) (interleaved (b2 ++ b3)) s)
interleave_turns b2 b3 s = go (right_lengths (length b2) (length b3) (length s)) (lengths_found b2 b3 s)
  where
    new : List ℕ
    new = interleaved (b2 ++ b3)

    rest : Answer
    rest = in_turn (block_judged 0 b2) (block_judged SYMBOLS_2 b3)

    left : (n : ℕ) → left_if (all_bits n) new s ≡ left_by (bits_answer n) new s
    left n = at (all_bits n)
      where
        at : (t : Bool) → left_if t new s ≡ left_by (done_if t NOT_A_BIT n) new s
        at true = refl
        at false = refl

    go : (lengths : Bool) → (lengths ≡ true → HaveLengths b2 b3 s)
        → (order_answer lengths (first_not_bit (b2 ++ b3)) ≡ in_turn (done_if lengths LENGTH 0) rest)
        × (order_leaves lengths (first_not_bit (b2 ++ b3)) new s ≡ left_by (in_turn (done_if lengths LENGTH 0) rest) new s)
    go true h =
        let same = both_judged b2 b3 (h refl).two (h refl).three in
        (same, left (first_not_bit (b2 ++ b3)) ∙ ap (λ (a : Answer). left_by a new s) same)
    go false h = (refl, refl)
