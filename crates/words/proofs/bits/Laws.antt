-- What the turns of the loops keep, and what the library says of a slice, said of bits.
-- Assumes nothing.
use mathlib.Core.Path.{◌≡◌, refl, sym, ap, ◌∙◌}
use mathlib.Core.Bool.{Bool, true, false, cond}
use mathlib.Core.List.{List, [], ◌∷◌, ◌++◌}
use Prim.Native.Nat.{ℕ, zero, suc, ◌+◌, ◌-◌, ◌*◌, ◌/◌, ◌%◌, ◌^◌, ◌≤◌, ◌<◌}
use native.Mathlib.Nat.{lt_of_lt_of_le, add-zero, suc-mul}
use native.Mathlib.Numerals.{add-one}
use native.Mathlib.Omega.{arith}
use lib.Bits.{bit_or, or_lt, or_add_and, and_le_l, and_le_r}
use lib.Dec.{lit<, eqb, leb, ltb}
use lib.IntN.{pos}
use lib.ListN.{length, get_or, take, drop, set, drop_of_length-le}
use lib.Pow.{pow_mono, pow_pos, high}
use lib.Seq.{drop-cons, take-suc, sets, set_comm}
use lib.Signed.{mag}
use borrow.Author.Tests.{lt-ltb, le-ltb, leb-true, leb-false, eq-eqb, ne_eqb}
use Rattle.std.proofs.lemmas.Bool.Decides.{nat_tests}
use Rattle.std.proofs.lemmas.List.Recursion.{is_position_or_len}
use Rattle.std.proofs.lemmas.Nat.{pow-add}
use Rattle.std.proofs.lemmas.Option.{get_or_from_slice_get}
use Rattle.std.specs.List.{position, position_or_len, slice_get}
use Rattle.std.specs.Option.{unwrap_or}
use Rattle.std.specs.declared.option.Option.TheVariants.{None, Some}
use Rattle.words.specs.Bits.{first_not_bit, value_of, bits_of, signed_of}
use Rattle.words.specs.Laws.Digits.{value_snoc, length_bits, bits_snoc, not_bit_le}
use Rattle.words.specs.Laws.Signs.{signed_mag}

-- ---- the first byte that is no bit, from a place on

pub bit_here : (l : List ℕ) (i : ℕ) → i < length l → get_or l i 0 ≤ 1
    → i + first_not_bit (drop i l) ≡ i + 1 + first_not_bit (drop (i + 1) l)
unfolding first_not_bit
bit_here l i h b =
    ap (λ (x : List ℕ). i + first_not_bit x) (drop-cons l i 0 h)
    ∙ ap (λ (t : Bool). i + cond t (suc (first_not_bit (drop (suc i) l))) 0) (lt-ltb (get_or l i 0) 2 (omega arith))
    ∙ ap (λ (n : ℕ). i + suc (first_not_bit (drop n l))) (sym (add-one i))
    ∙ omega arith

pub no_bit_here : (l : List ℕ) (i : ℕ) → i < length l → 1 < get_or l i 0 → i + first_not_bit (drop i l) ≡ i
unfolding first_not_bit
no_bit_here l i h b =
    ap (λ (x : List ℕ). i + first_not_bit x) (drop-cons l i 0 h)
    ∙ ap (λ (t : Bool). i + cond t (suc (first_not_bit (drop (suc i) l))) 0) (le-ltb (get_or l i 0) 2 b)
    ∙ omega arith

pub no_more : (l : List ℕ) (i : ℕ) → length l ≤ i → i + first_not_bit (drop i l) ≡ i
unfolding first_not_bit
no_more l i h = ap (λ (x : List ℕ). i + first_not_bit x) (drop_of_length-le l h) ∙ omega arith

-- as `position` finds it

first_is : (l : List ℕ) → first_not_bit l ≡ position_or_len (ltb 1) l
unfolding first_not_bit
first_is l = is_position_or_len first_not_bit (ltb 1) refl (λ x xs. grind (arith, nat_tests)) l

found_by : (n m : ℕ) → n ≤ m → n ≡ unwrap_or (cond (ltb n m) (Some n) None) m
found_by n m h = grind (arith, nat_tests)

pub first_position : (l : List ℕ) → unwrap_or (position (ltb 1) l) (length l) ≡ first_not_bit l
first_position l =
    let e = first_is l in
    sym (e ∙ found_by (position_or_len (ltb 1) l) (length l) (omega (arith, not_bit_le l)))

-- ---- all bytes together, one laid over the other

-- where what was seen is at most 1, the first byte that is no bit is the first one of what is left; else it was passed
pub record Seen (l : List ℕ) (seen i : ℕ) : Type 0 where
  pub none : seen ≤ 1 → i + first_not_bit (drop i l) ≡ first_not_bit l
  pub some : 1 < seen → first_not_bit l < i

or_low : (a b : ℕ) → bit_or a b ≤ 1 → (a ≤ 1) × (b ≤ 1)
or_low a b h = (omega (arith, or_add_and a b, and_le_r a b), omega (arith, or_add_and a b, and_le_l a b))

pub seen_next : (l : List ℕ) (seen i : ℕ) → i < length l → Seen l seen i → Seen l (bit_or seen (get_or l i 0)) (i + 1)
seen_next l seen i h s =
    record {
      none = λ low. let both = or_low seen b low in sym (bit_here l i h both.1) ∙ s.none both.0;
      some = λ high. go (leb seen 1) (leb b 1) refl refl high;
    }
  where
    b : ℕ
    b = get_or l i 0

    go : (t u : Bool) → leb seen 1 ≡ t → leb b 1 ≡ u → 1 < bit_or seen b → first_not_bit l < i + 1
    go true true e f high =
        absurd (omega (arith, or_lt 1 seen b (omega (arith, leb-true seen 1 e)) (omega (arith, leb-true b 1 f))))
    go true false e f high = omega (arith, no_bit_here l i h (leb-false b 1 f), s.none (leb-true seen 1 e))
    go false u e f high = omega (arith, s.some (leb-false seen 1 e))

pub seen_all : (l : List ℕ) (seen i : ℕ) → i ≡ length l → Seen l seen i → leb seen 1 ≡ eqb (first_not_bit l) (length l)
seen_all l seen i h s = go (leb seen 1) refl
  where
    go : (t : Bool) → leb seen 1 ≡ t → leb seen 1 ≡ eqb (first_not_bit l) (length l)
    go true e =
        e ∙ sym (eq-eqb (first_not_bit l) (length l) (omega (arith, no_more l i (omega arith), s.none (leb-true seen 1 e))))
    go false e = e ∙ sym (ne_eqb (first_not_bit l) (length l) (λ q. omega (arith, s.some (leb-false seen 1 e))))

-- ---- one more bit read

pub value_more : (l : List ℕ) (i : ℕ) → i < length l → value_of (take (i + 1) l) ≡ value_of (take i l) * 2 + get_or l i 0 % 2
value_more l i h =
    ap (λ (k : ℕ). value_of (take k l)) (add-one i) ∙ ap value_of (take-suc l i 0 h) ∙ value_snoc (take i l) (get_or l i 0)

-- ---- the largest number of some bits

pub all_ones : (w : ℕ) → w ≤ 64 → 18446744073709551615 / 2 ^ (64 - w) ≡ 2 ^ w - 1
all_ones w h = ap (λ (n : ℕ). n / 2 ^ (64 - w)) whole ∙ high (2 ^ w - 1) (64 - w) (omega (arith, pow_pos (64 - w)))
  where
    product : 2 ^ w * 2 ^ (64 - w) ≡ 2 ^ 64
    product = sym (pow-add 2 w (64 - w)) ∙ (let e : w + (64 - w) ≡ 64 = omega arith in ap (λ (k : ℕ). 2 ^ k) e)

    less : (p q : ℕ) → 0 < p → p * q ≡ (p - 1) * q + q
    less zero q h = absurd (omega arith)
    less (suc p) q h = suc-mul p q ∙ (let e : p ≡ suc p - 1 = omega arith in ap (λ (k : ℕ). k * q + q) e)

    whole : 18446744073709551615 ≡ (2 ^ w - 1) * 2 ^ (64 - w) + (2 ^ (64 - w) - 1)
    whole = omega (arith, product, less (2 ^ w) (2 ^ (64 - w)) (pow_pos w), pow_pos (64 - w))

-- ---- a number with a sign of at most 64 bits

pub signed_fits : (l : List ℕ) → length l ≤ 64 → mag (signed_of l) < 2 ^ 63
unfolding signed_of value_of
signed_fits [] h = lit< tt
signed_fits (b ∷ l) h = lt_of_lt_of_le (signed_mag b l) (pow_mono {i = length l} {j = 63} (omega arith))

-- the first bit, as `first` gives it
pub first_bit : (l : List ℕ) (b : ℕ) → Some b ≡ slice_get l 0 → get_or l 0 0 % 2 ≡ b % 2
first_bit l b e = ap (λ (x : ℕ). x % 2) (get_or_from_slice_get l 0 b 0 (sym e))

pub signed_none : (l : List ℕ) → None ≡ slice_get l 0 → pos 0 ≡ signed_of l
unfolding signed_of value_of
signed_none [] e = refl
signed_none (b ∷ l) e = absurd (let z : None ≡ Some b = e in let y : ◌≡◌ {A = ℕ} 0 1 = cc in omega arith)

-- ---- one more bit put, the lowest first

sets_snoc : (l : List ℕ) (i : ℕ) (bits : List ℕ) (b : ℕ) → sets l i (bits ++ (b ∷ [])) ≡ sets (set l (i + length bits) b) i bits
sets_snoc l i [] b = ap (λ (k : ℕ). set l k b) (sym (add-zero i))
sets_snoc l i (a ∷ bits) b =
    sets_snoc (set l i a) (suc i) bits b
    ∙ ap (λ (x : List ℕ). sets x (suc i) bits)
    (set_comm l i (suc i + length bits) a b (λ e. omega arith)
    ∙ ap (λ (k : ℕ). set (set l k b) i a) (let e : suc i + length bits ≡ i + suc (length bits) = omega arith in e))

-- as a loop that counts down has it
pub bits_left : (l : List ℕ) (at w n : ℕ) → 0 < w
    → sets (set l (at + (w - 1)) (n % 2)) at (bits_of (w - 1) (n / 2)) ≡ sets l at (bits_of w n)
bits_left l at w n h =
    let less : suc (w - 1) ≡ w = omega arith in
    ap (λ (k : ℕ). sets (set l (at + k) (n % 2)) at (bits_of (w - 1) (n / 2))) (sym (length_bits (w - 1) (n / 2)))
    ∙ sym (sets_snoc l at (bits_of (w - 1) (n / 2)) (n % 2))
    ∙ ap (sets l at) (sym (bits_snoc (w - 1) n) ∙ ap (λ (k : ℕ). bits_of k n) less)

pub none_left : (l : List ℕ) (at w n : ℕ) → w ≤ 0 → sets l at (bits_of w n) ≡ l
unfolding bits_of
none_left l at zero n h = refl
none_left l at (suc w) n h = absurd (omega arith)
