-- THEOREMS: numbers and bits, there and back, for every width.
-- Assumes nothing.
use Rattle.std.specs.Prelude.{◌≡◌, refl, Bool, true, false, List, [], ◌∷◌, ◌⊎◌, ℕ, zero, suc, ◌+◌, ◌-◌, ◌^◌, ◌≤◌, ◌<◌, min, ℤ, ltb, length, get_or, take, drop}
use Rattle.std.proofs.Common.{sym, ap, ap₂, ◌∙◌, mod-eq_of_lt, arith, length-take, length-drop, leb-true, ltb-true, le-leb, lt-ltb}
use Rattle.std.proofs.Math.Bool.{and-eq-true_iff}
use Rattle.std.proofs.Math.Nat.{min-eq_left}
use Rattle.std.proofs.lemmas.List.Edits.{sets}
use Rattle.std.proofs.Math.Seq.{length-sets}
use Rattle.words.specs.Bits.{IsBits, value_of, bits_of, signed_of, unsigned_of, holds_signed, bits_at, is_inside, fits_number, fits_signed, put_answer, put_bytes, number_answer, number_bytes, signed_answer, signed_bytes}
use Rattle.words.specs.Laws.Digits.{first_is_bit, other_bits, value_lt, value_bits, bits_cons}
use Rattle.words.specs.Laws.Puts.{put_back, sets_other, sets_same}
use Rattle.words.specs.Laws.Signs.{unsigned_signed, signed_mag, signed_bits, holds_means, holds_when}
use Rattle.words.specs.Refusal.{Done}

-- The w bits of a number below 2 ^ w stand for it.
pub number_back : (w n : ℕ) → n < 2 ^ w → value_of (bits_of w n) ≡ n
number_back w n h = value_bits w n ∙ mod-eq_of_lt h

-- The bits of the number that bits stand for are those bits.
pub bits_back : (l : List ℕ) → IsBits l → bits_of (length l) (value_of l) ≡ l
unfolding value_of bits_of
bits_back [] h = refl
bits_back (b ∷ l) h =
    bits_cons (length l) _ (value_of l) (value_lt l)
    ∙ ap₂ (λ (x : ℕ) (r : List ℕ). x ∷ r) (omega (arith, first_is_bit h)) (bits_back l (other_bits h))

-- The w bits of a number with a sign that w bits hold stand for it.
pub signed_back : (w : ℕ) (z : ℤ) → holds_signed w z ≡ true → signed_of (bits_of w (unsigned_of w z)) ≡ z
signed_back zero z h = absurd (omega (arith, (holds_means 0 z h).0))
signed_back (suc k) z h =
    let less : suc k - 1 ≡ k = omega arith in
    signed_bits k z (rw less at (holds_means (suc k) z h).2)

-- The bits of the number with a sign that bits stand for are those bits.
pub signed_bits_back : (l : List ℕ) → IsBits l → bits_of (length l) (unsigned_of (length l) (signed_of l)) ≡ l
signed_bits_back l h = ap (bits_of (length l)) (unsigned_signed l) ∙ bits_back l h

-- What 1 to 64 bits stand for with a sign, they hold.
pub signed_held : (l : List ℕ) → 0 < length l → length l ≤ 64 → holds_signed (length l) (signed_of l) ≡ true
signed_held [] p h = absurd (omega arith)
signed_held (b ∷ l) p h =
    let less : suc (length l) - 1 ≡ length l = omega arith in
    holds_when (suc (length l)) (signed_of (b ∷ l)) p h (rw less (signed_mag b l))

-- A number that was put is taken back.
pub put_number_back : (l : List ℕ) (at w n : ℕ) → w ≤ 64 → fits_number l at w n ≡ true
    → value_of (bits_at (number_bytes l at w n) at w) ≡ n
put_number_back l at w n h fits =
    let both = (and-eq-true_iff (is_inside l at w) (ltb n (2 ^ w))).0 fits in
    ap value_of (put_back (fits_number l at w n) l at w n h fits (leb-true (at + w) (length l) both.0))
    ∙ number_back w n (ltb-true n (2 ^ w) both.1)

-- A number with a sign that was put is taken back.
pub put_signed_back : (l : List ℕ) (at w : ℕ) (z : ℤ) → fits_signed l at w z ≡ true
    → signed_of (bits_at (signed_bytes l at w z) at w) ≡ z
put_signed_back l at w z fits =
    let both = (and-eq-true_iff (is_inside l at w) (holds_signed w z)).0 fits in
    ap signed_of
    (put_back (fits_signed l at w z) l at w (unsigned_of w z) (holds_means w z both.1).1 fits (leb-true (at + w) (length l) both.0))
    ∙ signed_back w z both.1

-- w bits lie inside the bytes, w from 1 to 64
pub record BitsThere (l : List ℕ) (at w : ℕ) : Type 0 where
  pub some : 1 ≤ w
  pub few : w ≤ 64
  pub inside : at + w ≤ length l
  pub bits : IsBits (bits_at l at w)

module _ (l : List ℕ) (at w : ℕ) (there : BitsThere l at w) where
  count : length (bits_at l at w) ≡ w
  count =
      length-take (min w 64) (drop at l)
      ∙ omega (arith, length-drop at l, there.few, there.inside, min-eq_left there.few)

  again : (n : ℕ) → n ≡ value_of (bits_at l at w) → sets l at (bits_of w n) ≡ l
  again n e =
      ap (sets l at)
      (ap₂ bits_of (sym count) e ∙ bits_back (bits_at l at w) there.bits ∙ ap (λ (k : ℕ). take k (drop at l)) (min-eq_left there.few))
      ∙ sets_same l at w there.inside

  left : (fits : Bool) (n : ℕ) → fits ≡ true → n ≡ value_of (bits_at l at w) → (put_answer fits ≡ Done) × (put_bytes fits l at (bits_of w n) ≡ l)
  left fits n e q = (ap put_answer e, ap (λ (t : Bool). put_bytes t l at (bits_of w n)) e ∙ again n q)

  lies_inside : is_inside l at w ≡ true
  lies_inside = le-leb (at + w) (length l) there.inside

  -- A number that was taken can be put back, and leaves the bytes as they were.
  pub number_put_again : (number_answer l at w (value_of (bits_at l at w)) ≡ Done) × (number_bytes l at w (value_of (bits_at l at w)) ≡ l)
  number_put_again =
      let n = value_of (bits_at l at w) in
      left (fits_number l at w n) n ((and-eq-true_iff (is_inside l at w) (ltb n (2 ^ w))).1 (
        lies_inside,
        lt-ltb n (2 ^ w) (rw count at (value_lt (bits_at l at w))),
      )) refl

  -- So can a number with a sign.
  pub signed_put_again : (signed_answer l at w (signed_of (bits_at l at w)) ≡ Done) × (signed_bytes l at w (signed_of (bits_at l at w)) ≡ l)
  signed_put_again =
      let z = signed_of (bits_at l at w) in
      left (fits_signed l at w z) (unsigned_of w z)
      ((and-eq-true_iff (is_inside l at w) (holds_signed w z)).1 (
        lies_inside,
        ap (λ (k : ℕ). holds_signed k z) (sym count)
            ∙ signed_held (bits_at l at w) (omega (arith, count, there.some)) (omega (arith, count, there.few)),
      ))
      (ap (λ (k : ℕ). unsigned_of k z) (sym count) ∙ unsigned_signed (bits_at l at w))

-- Putting leaves every byte outside its place as it was, and their number.
pub others_stay : (fits : Bool) (l : List ℕ) (at : ℕ) (bits : List ℕ) (k : ℕ) → (k < at) ⊎ (at + length bits ≤ k)
    → get_or (put_bytes fits l at bits) k 0 ≡ get_or l k 0
others_stay true l at bits k h = sets_other l at bits k h
others_stay false l at bits k h = refl

pub length_stays : (fits : Bool) (l : List ℕ) (at : ℕ) (bits : List ℕ) → length (put_bytes fits l at bits) ≡ length l
length_stays true l at bits = length-sets l at bits
length_stays false l at bits = refl
