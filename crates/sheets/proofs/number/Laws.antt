-- Numbers as the code reads and writes them.
-- Assumes nothing.
use Rattle.std.specs.Prelude.{Option, Some, None, unsigned_abs}
use mathlib.Core.Path.{◌≡◌, refl, sym, ap, ap₂, ◌∙◌}
use mathlib.Core.Bool.{Bool, true, false, cond, not, ◌&&◌, ◌||◌, and-false, or-true}
use mathlib.Core.List.{List, [], ◌∷◌, ◌++◌, append_assoc}
use Prim.Native.Nat.{ℕ, zero, suc, ◌+◌, ◌-◌, ◌*◌, ◌/◌, ◌%◌, ◌≤◌, ◌<◌, min}
use native.Mathlib.Decide.{dec_le, dec_lt}
use native.Mathlib.Numerals.{add-one}
use native.Mathlib.Omega.{arith}
use lib.Dec.{eqb, leb}
use lib.IntN.{ℤ, pos, negsuc, neg_ℤ}
use lib.ListN.{length, get_or, take, drop, set, length-drop, length-append, drop_of_length-le}
use lib.Seq.{drop-cons, take_all}
use lib.Signed.{mag, non_neg, lt_z}
use borrow.Author.Tests.{eq-eqb, ne_eqb, le-leb, lt-leb, lt-ltb, le-ltb, ltb-true}
use Rattle.fields.specs.Counts.{in_range}
use Rattle.fields.specs.declared.table.Field.{Field}
use Rattle.sheets.specs.Number.{MINUS, is_digit, all_digits, decimal_from, decimal_in, is_plain, is_number, value_in, decimal, numeral}
use Rattle.sheets.specs.Laws.Steps.{BEYOND, digits_are, plain_read, negative_read, positive_read, number_read}
use Rattle.std.proofs.lemmas.List.{drop-set}
use Rattle.sheets.specs.Laws.Numerals.{decimal_least, decimal_small, decimal_large}

-- ---- digits, from a place on

-- the digits of l, read behind others that stand for n
abbrev pub digits_from : ℕ → List ℕ → Option ℕ
digits_from n l = cond (all_digits l) (Some (min (decimal_from n l) BEYOND)) None

-- cut at BEYOND on the way or at the end, it is the same
decimal_cut : (l : List ℕ) (n : ℕ) → min (decimal_from (min n BEYOND) l) BEYOND ≡ min (decimal_from n l) BEYOND
decimal_cut l n = go (dec_le n BEYOND)
  where
    go : Dec (n ≤ BEYOND) → min (decimal_from (min n BEYOND) l) BEYOND ≡ min (decimal_from n l) BEYOND
    go (yes h) = let e : min n BEYOND ≡ n = omega arith in ap (λ (k : ℕ). min (decimal_from k l) BEYOND) e
    go (no h) = omega (arith, decimal_least l n, decimal_least l (min n BEYOND))

module _ (l : List ℕ) (i n : ℕ) where
  no_digit : i < length l → is_digit (get_or l i 0) ≡ false → digits_from n (drop i l) ≡ None
  unfolding all_digits
  no_digit h e = rw (drop-cons l i 0 h, all_digits, e)

  pub digit_below : i < length l → get_or l i 0 < 48 → digits_from n (drop i l) ≡ None
  digit_below h e = no_digit h (rw (lt-leb 48 (get_or l i 0) e))

  pub digit_above : i < length l → 57 < get_or l i 0 → digits_from n (drop i l) ≡ None
  digit_above h e = no_digit h (rw (lt-leb (get_or l i 0) 57 e) (and-false (leb 48 (get_or l i 0))))

  pub digit_here : i < length l → 48 ≤ get_or l i 0 → get_or l i 0 ≤ 57
      → digits_from (min (n * 10 + (get_or l i 0 - 48)) BEYOND) (drop (i + 1) l) ≡ digits_from n (drop i l)
  unfolding all_digits decimal_from
  digit_here h low high =
      rw (
        add-one,
        drop-cons l i 0 h,
        all_digits,
        decimal_from,
        le-leb 48 (get_or l i 0) low,
        le-leb (get_or l i 0) 57 high,
        decimal_cut (drop (suc i) l) (n * 10 + (get_or l i 0 - 48)),
      )

  pub digits_end : length l ≤ i → n ≤ BEYOND → digits_from n (drop i l) ≡ Some n
  unfolding all_digits decimal_from
  digits_end h low = let e : min n BEYOND ≡ n = omega arith in rw (drop_of_length-le l h, all_digits, decimal_from, e)

-- ---- a number without a sign

module _ (l : List ℕ) where
  pub plain_empty : length l ≡ 0 → is_plain l ≡ false
  unfolding is_plain
  plain_empty h = rw (le-ltb 0 (length l) (omega arith))

  pub plain_zeros : 0 < length l → get_or l 0 0 ≡ 48 → (length l ≡ 1 → ⊥) → is_plain l ≡ false
  unfolding is_plain
  plain_zeros h e n = rw (lt-ltb 0 (length l) h, eq-eqb (get_or l 0 0) 48 e, ne_eqb (length l) 1 n)

  -- where the first digit is no zero, or is the only one, the digits decide
  pub plain_first : 0 < length l → (get_or l 0 0 ≡ 48 → ⊥) → is_plain l ≡ all_digits l
  unfolding is_plain
  plain_first h e = rw (lt-ltb 0 (length l) h, ne_eqb (get_or l 0 0) 48 e)

  pub plain_one : length l ≡ 1 → is_plain l ≡ all_digits l
  unfolding is_plain
  plain_one n =
      rw (lt-ltb 0 (length l) (omega arith), eq-eqb (length l) 1 n)
      (ap (λ (t : Bool). t && all_digits l) (or-true (not (eqb (get_or l 0 0) 48))))

-- ---- a number in a field's range

-- a number with a sign or without, in range
abbrev pub within_by : Field → ℤ → Option ℤ
within_by f z = cond (in_range f z) (Some z) None

range_past : (f : Field) (z : ℤ) → f.most < mag z → within_by f z ≡ None
range_past f z h =
    rw (lt-leb (mag z) f.most h, and-false (leb f.least (mag z)), and-false (f.signed || non_neg z)) refl

-- from BEYOND on every number is out of range, so that cut at BEYOND it is judged as it is
within_cut : (f : Field) (sign : ℕ → ℤ) → ((n : ℕ) → BEYOND ≤ n → f.most < mag (sign n))
    → (n : ℕ) → within_by f (sign (min n BEYOND)) ≡ within_by f (sign n)
within_cut f sign beyond n = go (dec_le n BEYOND)
  where
    go : Dec (n ≤ BEYOND) → within_by f (sign (min n BEYOND)) ≡ within_by f (sign n)
    go (yes h) = let e : min n BEYOND ≡ n = omega arith in ap (λ (k : ℕ). within_by f (sign k)) e
    go (no h) =
        range_past f (sign (min n BEYOND)) (beyond (min n BEYOND) (omega arith)) ∙ sym (range_past f (sign n) (beyond n (omega arith)))

-- the size of a number behind a `-`
minus_size : (m n : ℕ) → m + 1 < n → m < mag (neg_ℤ (pos n))
minus_size m zero h = absurd (omega arith)
minus_size m (suc n) h = omega arith

module _ (f : Field) (l : List ℕ) where
  pub positive_some : f.most + 1 < BEYOND → (n : ℕ) → plain_read l ≡ Some n → within_by f (pos n) ≡ positive_read f l
  positive_some h n e =
      let are = digits_are (is_plain l) l n e in
      rw (are.0, are.1) (within_cut f pos (λ k g. omega arith) (decimal_in l))

  pub negative_some : f.most + 1 < BEYOND → (n : ℕ) → plain_read l ≡ Some n → (n ≡ 0 → ⊥) → within_by f (neg_ℤ (pos n)) ≡ negative_read f l
  negative_some h n e z =
      let are = digits_are (is_plain l) l n e in
      rw (are.0, ne_eqb (decimal_in l) 0 (λ q. z (omega (arith, are.1))), are.1)
      (within_cut f (λ (k : ℕ). neg_ℤ (pos k)) (λ k g. minus_size f.most k (omega arith)) (decimal_in l))

-- ---- a number, by its first byte

module _ (f : Field) (l : List ℕ) where
  -- the part behind the `-`, as the code lends it
  pub number_negative : get_or l 0 0 ≡ MINUS → negative_read f (take (length l - 1) (drop 1 l)) ≡ number_read f l
  unfolding is_number value_in
  number_negative e =
      rw (eq-eqb (get_or l 0 0) MINUS e)
      (ap (negative_read f) (take_all (length l - 1) (drop 1 l) (simp length-drop (omega arith))))

  pub number_positive : (get_or l 0 0 ≡ MINUS → ⊥) → positive_read f l ≡ number_read f l
  unfolding is_number value_in
  number_positive e = rw (ne_eqb (get_or l 0 0) MINUS e)

-- ---- the digits, written from the last one on

pub some_digit : (n : ℕ) → 1 ≤ length (decimal n)
some_digit n = go (dec_lt n 10)
  where
    go : Dec (n < 10) → 1 ≤ length (decimal n)
    go (yes h) = omega (arith, ap length (decimal_small n h))
    go (no h) = omega (arith, ap length (decimal_large n (omega arith)), length-append (decimal (n / 10)) ((48 + n % 10) ∷ []))

module _ (n from : ℕ) (bytes digits : List ℕ) (h : from < length bytes) (e : decimal n ++ drop (from + 1) bytes ≡ digits) where
  -- the last digit of what is left
  pub digit_put : 10 ≤ n → decimal (n / 10) ++ drop from (set bytes from (48 + n % 10)) ≡ digits
  digit_put m =
      ap (λ (l : List ℕ). decimal (n / 10) ++ l) (drop-set bytes from (48 + n % 10) h)
      ∙ sym (append_assoc (decimal (n / 10)) ((48 + n % 10) ∷ []) (drop (from + 1) bytes))
      ∙ ap (λ (l : List ℕ). l ++ drop (from + 1) bytes) (sym (decimal_large n m))
      ∙ e

  -- the only one
  pub digits_put : n < 10 → drop from (set bytes from (48 + n)) ≡ digits
  digits_put m = drop-set bytes from (48 + n) h ∙ ap (λ (l : List ℕ). l ++ drop (from + 1) bytes) (sym (decimal_small n m)) ∙ e

-- ---- a number, written by its sign

numeral_below : (z : ℤ) → lt_z z (pos 0) ≡ true → numeral z ≡ MINUS ∷ decimal (unsigned_abs z)
unfolding numeral
numeral_below (pos n) e = absurd (omega (arith, ltb-true n 0 e))
numeral_below (negsuc n) e = refl

numeral_above : (z : ℤ) → lt_z z (pos 0) ≡ false → numeral z ≡ decimal (unsigned_abs z)
unfolding numeral
numeral_above (pos n) e = refl
numeral_above (negsuc n) e = absurd (let c : ◌≡◌ {A = ℕ} 0 1 = cc in omega arith)

pub some_numeral : (z : ℤ) → 1 ≤ length (numeral z)
unfolding numeral
some_numeral (pos n) = some_digit n
some_numeral (negsuc n) = omega arith

-- its sign, where it has one, and its digits are put behind what is there
module _ (number z : ℤ) (old left digits : List ℕ) (e : z ≡ number) (d : digits ≡ decimal (unsigned_abs z)) where
  pub with_minus : lt_z z (pos 0) ≡ true → left ≡ old ++ MINUS ∷ [] → left ++ digits ≡ old ++ numeral number
  with_minus below p =
      ap₂ (λ (l m : List ℕ). l ++ m) p d
      ∙ append_assoc old (MINUS ∷ []) (decimal (unsigned_abs z))
      ∙ ap (λ (l : List ℕ). old ++ l) (sym (numeral_below z below) ∙ ap numeral e)

  pub without_minus : lt_z z (pos 0) ≡ false → left ≡ old → left ++ digits ≡ old ++ numeral number
  without_minus above p = ap₂ (λ (l m : List ℕ). l ++ m) p (d ∙ sym (numeral_above z above) ∙ ap numeral e)
