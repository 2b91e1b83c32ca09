-- Numbers as they are written: each is a number, stands for what was written, and nothing else stands for it.
-- Assumes nothing.
use Rattle.std.specs.Prelude.{◌≡◌, refl, Bool, true, false, cond, not, ◌&&◌, ◌||◌, List, [], ◌∷◌, ◌++◌, ℕ, zero, suc, ◌+◌, ◌-◌, ◌*◌, ◌/◌, ◌%◌, ◌≤◌, ◌<◌, eqb, leb, ltb, ℤ, pos, negsuc, neg_ℤ, length, get_or, take}
use Rattle.std.proofs.Common.{sym, ap, ap₂, ◌∙◌, le_trans, arith, length-append, take-suc, take_all, length-take-le, get_or-take, eq-eqb, ne_eqb, le-leb, lt-ltb, le-ltb, eqb-true, leb-true, ltb-true}
use Rattle.std.proofs.Math.Bool.{and-true, and_assoc, and-eq-true_iff}
use Rattle.std.proofs.Math.Decide.{dec_lt}
use Rattle.std.proofs.Math.ListN.{get_or-append}
use Rattle.std.proofs.lemmas.Bool.{eqb-false, not-true}
use Rattle.sheets.specs.Text.{index_of}
use Rattle.sheets.specs.Number.{MINUS, is_digit, all_digits, decimal_from, decimal_in, is_plain, is_number, value_in, decimal_by, decimal, numeral}

-- ---- the digits of a number: those of a tenth of it, and its last one

module _ (most n : ℕ) where
  by_small : n < 10 → decimal_by (suc most) n ≡ (48 + n) ∷ []
  unfolding decimal_by
  by_small h = rw (lt-ltb n 10 h, decimal_by)

  by_large : 10 ≤ n → decimal_by (suc most) n ≡ decimal_by most (n / 10) ++ (48 + n % 10) ∷ []
  unfolding decimal_by
  by_large h = rw (le-ltb n 10 h, decimal_by)

-- more digits than n has are enough
by_enough : (f g n : ℕ) → n < f → n < g → decimal_by f n ≡ decimal_by g n
by_enough zero g n p q = absurd (omega arith)
by_enough (suc f) zero n p q = absurd (omega arith)
by_enough (suc f) (suc g) n p q = go (dec_lt n 10) (by_enough f g (n / 10))
  where
    go : Dec (n < 10) → (n / 10 < f → n / 10 < g → decimal_by f (n / 10) ≡ decimal_by g (n / 10)) → decimal_by (suc f) n ≡ decimal_by (suc g) n
    go (yes h) ih = by_small f n h ∙ sym (by_small g n h)
    go (no h) ih =
        by_large f n (omega arith)
        ∙ ap (λ (l : List ℕ). l ++ (48 + n % 10) ∷ []) (ih (omega arith) (omega arith))
        ∙ sym (by_large g n (omega arith))

pub decimal_small : (n : ℕ) → n < 10 → decimal n ≡ (48 + n) ∷ []
unfolding decimal
decimal_small n h = by_small n n h

pub decimal_large : (n : ℕ) → 10 ≤ n → decimal n ≡ decimal (n / 10) ++ (48 + n % 10) ∷ []
unfolding decimal
decimal_large n h =
    by_large n n h
    ∙ ap (λ (l : List ℕ). l ++ (48 + n % 10) ∷ []) (by_enough n (suc (n / 10)) (n / 10) (omega arith) (omega arith))

-- what holds of one digit, and of a number with a digit more, holds of each number
by_digits : (P : ℕ → List ℕ → Type 0) → ((n : ℕ) → n < 10 → P n ((48 + n) ∷ []))
    → ((n : ℕ) (l : List ℕ) → 10 ≤ n → P (n / 10) l → P n (l ++ (48 + n % 10) ∷ [])) → (n : ℕ) → P n (decimal n)
by_digits P small large n = run (suc n) n (omega arith)
  where
    go : (m : ℕ) → Dec (m < 10) → (10 ≤ m → P (m / 10) (decimal (m / 10))) → P m (decimal m)
    go m (yes h) ih = rw (decimal_small m h) (small m h)
    go m (no h) ih = let k : 10 ≤ m = omega arith in rw (decimal_large m k) (large m (decimal (m / 10)) k (ih k))

    run : (f m : ℕ) → m < f → P m (decimal m)
    run zero m h = absurd (omega arith)
    run (suc f) m h = go m (dec_lt m 10) (λ k. run f (m / 10) (omega arith))

-- ---- digits: each of them, and one behind others

digit_is : (b : ℕ) → 48 ≤ b → b ≤ 57 → is_digit b ≡ true
digit_is b low high = rw (le-leb 48 b low, le-leb b 57 high) refl

digit_means : (b : ℕ) → is_digit b ≡ true → (48 ≤ b) × (b ≤ 57)
digit_means b e =
    let both = (and-eq-true_iff (leb 48 b) (leb b 57)).0 e in
    (leb-true 48 b both.0, leb-true b 57 both.1)

digits_append : (l m : List ℕ) → all_digits (l ++ m) ≡ (all_digits l && all_digits m)
unfolding all_digits
digits_append [] m = refl
digits_append (b ∷ l) m =
    ap (λ (t : Bool). is_digit b && t) (digits_append l m) ∙ sym (and_assoc (is_digit b) (all_digits l) (all_digits m))

digits_last : (l : List ℕ) (b : ℕ) → all_digits (l ++ b ∷ []) ≡ (all_digits l && is_digit b)
unfolding all_digits
digits_last l b = digits_append l (b ∷ []) ∙ ap (λ (t : Bool). all_digits l && t) (and-true (is_digit b))

first_digit : (l : List ℕ) → 0 < length l → all_digits l ≡ true → 48 ≤ get_or l 0 0
unfolding all_digits
first_digit [] h e = absurd (omega arith)
first_digit (b ∷ l) h e = (digit_means b ((and-eq-true_iff (is_digit b) (all_digits l)).0 e).0).0

digits_without : (b : ℕ) → b < 48 → (l : List ℕ) → all_digits l ≡ true → index_of b l ≡ length l
unfolding all_digits index_of
digits_without b h [] e = refl
digits_without b h (x ∷ l) e =
    let both = (and-eq-true_iff (is_digit x) (all_digits l)).0 e in
    let low = (digit_means x both.0).0 in
    rw (ne_eqb x b (λ q. omega arith)) (ap suc (digits_without b h l both.1))

pub decimal_least : (l : List ℕ) (n : ℕ) → n ≤ decimal_from n l
unfolding decimal_from
decimal_least [] n = omega arith
decimal_least (b ∷ l) n = le_trans (omega arith) (decimal_least l (n * 10 + (b - 48)))

decimal_last : (n : ℕ) (l : List ℕ) (b : ℕ) → decimal_from n (l ++ b ∷ []) ≡ decimal_from n l * 10 + (b - 48)
unfolding decimal_from
decimal_last n [] b = refl
decimal_last n (x ∷ l) b = decimal_last (n * 10 + (x - 48)) l b

-- no leading zero, no zero
decimal_some : (l : List ℕ) → 48 < get_or l 0 0 → 0 < decimal_in l
unfolding decimal_from
decimal_some [] h = absurd (omega arith)
decimal_some (b ∷ l) h = le_trans (omega arith) (decimal_least l (0 * 10 + (b - 48)))

-- ---- a number without a sign: what its test says

record PlainDigits (l : List ℕ) : Type 0 where
  pub some : 0 < length l
  pub first : get_or l 0 0 ≡ 48 → length l ≡ 1
  pub all : all_digits l ≡ true

plain_is : (l : List ℕ) → PlainDigits l → is_plain l ≡ true
unfolding is_plain
plain_is l p = rw (lt-ltb 0 (length l) p.some, p.all) (go (eqb (get_or l 0 0) 48) refl)
  where
    go : (t : Bool) → eqb (get_or l 0 0) 48 ≡ t → ((not t || eqb (length l) 1) && true) ≡ true
    go true e = rw (eq-eqb (length l) 1 (p.first (eqb-true (get_or l 0 0) 48 e))) refl
    go false e = refl

plain_means : (l : List ℕ) → is_plain l ≡ true → PlainDigits l
unfolding is_plain
plain_means l e =
    let some = (and-eq-true_iff (ltb 0 (length l)) ((not (eqb (get_or l 0 0) 48) || eqb (length l) 1) && all_digits l)).0 e in
    let rest = (and-eq-true_iff (not (eqb (get_or l 0 0) 48) || eqb (length l) 1) (all_digits l)).0 some.1 in
    record {
      some = ltb-true 0 (length l) some.0;
      first = λ zero_first. eqb-true (length l) 1 (rw (eq-eqb (get_or l 0 0) 48 zero_first) at rest.0);
      all = rest.1;
    }

-- ---- the digits l of n, as they are written

record Spelt (n : ℕ) (l : List ℕ) : Type 0 where
  pub some : 0 < length l
  pub first : 0 < n → 48 < get_or l 0 0
  pub only : n ≡ 0 → length l ≡ 1
  pub all : all_digits l ≡ true
  pub is : decimal_in l ≡ n

spelt_small : (n : ℕ) → n < 10 → Spelt n ((48 + n) ∷ [])
unfolding all_digits decimal_from
spelt_small n h = record {
  some = omega arith;
  first = λ g. omega arith;
  only = λ e. refl;
  all = rw (digit_is (48 + n) (omega arith) (omega arith)) refl;
  is = omega arith;
}

spelt_large : (n : ℕ) (l : List ℕ) → 10 ≤ n → Spelt (n / 10) l → Spelt n (l ++ (48 + n % 10) ∷ [])
spelt_large n l h w =
    let b = 48 + n % 10 in record {
      some = omega (arith, length-append l (b ∷ []), w.some);
      first = λ g. omega (arith, get_or-append l (b ∷ []) 0 0 w.some, w.first (omega arith));
      only = λ e. absurd (omega arith);
      all = digits_last l b ∙ rw w.all (digit_is b (omega arith) (omega arith));
      is = decimal_last 0 l b ∙ omega (arith, w.is);
    }

spelt : (n : ℕ) → Spelt n (decimal n)
spelt n = by_digits (λ (m : ℕ) (l : List ℕ). Spelt m l) spelt_small spelt_large n

spelt_plain : (n : ℕ) → is_plain (decimal n) ≡ true
spelt_plain n =
    let w = spelt n in
    plain_is (decimal n) (record {
      some = w.some;
      first = λ e. go (dec_lt 0 n) e;
      all = w.all;
    })
  where
    go : Dec (0 < n) → get_or (decimal n) 0 0 ≡ 48 → length (decimal n) ≡ 1
    go (yes h) e = absurd (omega (arith, (spelt n).first h))
    go (no h) e = (spelt n).only (omega arith)

spelt_unsigned : (n : ℕ) → eqb (get_or (decimal n) 0 0) MINUS ≡ false
spelt_unsigned n =
    let w = spelt n in
    ne_eqb (get_or (decimal n) 0 0) MINUS (λ e. omega (arith, first_digit (decimal n) w.some w.all))

-- ---- digits without a leading zero are written so: by induction from the last one

only_last : (l : List ℕ) (b : ℕ) → 0 < decimal_in l → is_digit b ≡ true → decimal (decimal_in l) ≡ l
    → decimal (decimal_in (l ++ b ∷ [])) ≡ l ++ b ∷ []
only_last l b h e back =
    let digit = digit_means b e in
    let n = decimal_in l * 10 + (b - 48) in
    let tenth : n / 10 ≡ decimal_in l = omega arith in
    let last : 48 + n % 10 ≡ b = omega arith in
    ap decimal (decimal_last 0 l b)
    ∙ decimal_large n (omega arith)
    ∙ ap₂ (λ (m : List ℕ) (c : ℕ). m ++ c ∷ []) (ap decimal tenth ∙ back) last

only_one : (l : List ℕ) → length l ≡ 1 → all_digits l ≡ true → decimal (decimal_in l) ≡ l
unfolding all_digits decimal_from
only_one [] one e = absurd (omega arith)
only_one (b ∷ []) one e =
    let digit = digit_means b ((and-eq-true_iff (is_digit b) true).0 e).0 in
    let same : 48 + (0 * 10 + (b - 48)) ≡ b = omega arith in
    decimal_small (0 * 10 + (b - 48)) (omega arith) ∙ ap (λ (c : ℕ). c ∷ []) same
only_one (b ∷ c ∷ l) one e = absurd (omega arith)

only_digits : (n : ℕ) (l : List ℕ) → length l ≡ suc n → all_digits l ≡ true → (0 < n → 48 < get_or l 0 0) → decimal (decimal_in l) ≡ l
only_digits zero l long e f = only_one l long e
only_digits (suc n) l long e f =
    let front = take (suc n) l in
    let b = get_or l (suc n) 0 in
    let cut : l ≡ front ++ b ∷ [] = sym (take_all (suc (suc n)) l (omega arith)) ∙ take-suc l (suc n) 0 (omega arith) in
    let both = (and-eq-true_iff (all_digits front) (is_digit b)).0 (sym (digits_last front b) ∙ ap all_digits (sym cut) ∙ e) in
    let first : 48 < get_or front 0 0 = omega (arith, get_or-take (suc n) l 0 0 (omega arith), f (omega arith)) in
    ap (λ (m : List ℕ). decimal (decimal_in m)) cut
    ∙ only_last front b (decimal_some front first) both.1
    (only_digits n front (length-take-le (suc n) l (omega arith)) both.0 (λ h. first))
    ∙ sym cut

only_plain : (l : List ℕ) → is_plain l ≡ true → decimal (decimal_in l) ≡ l
only_plain l e =
    let p = plain_means l e in
    only_digits (length l - 1) l (omega (arith, p.some)) p.all (λ h. go (dec_lt 48 (get_or l 0 0)) h)
  where
    go : Dec (48 < get_or l 0 0) → 0 < length l - 1 → 48 < get_or l 0 0
    go (yes g) h = g
    go (no g) h =
        let p = plain_means l e in
        let one : length l ≡ 1 = p.first (omega (arith, first_digit l p.some p.all)) in
        absurd (omega arith)

-- ---- numbers as they are written

pub numeral_is : (z : ℤ) → is_number (numeral z) ≡ true
unfolding is_number numeral
numeral_is (pos n) = rw (spelt_unsigned n) (spelt_plain n)
numeral_is (negsuc n) = rw (spelt_plain (suc n), (spelt (suc n)).is, ne_eqb (suc n) 0 (omega arith)) refl

pub numeral_value : (z : ℤ) → value_in (numeral z) ≡ z
unfolding value_in numeral
numeral_value (pos n) = rw (spelt_unsigned n, (spelt n).is) refl
numeral_value (negsuc n) = rw (spelt (suc n)).is refl

numeral_minus : (n : ℕ) → (n ≡ 0 → ⊥) → numeral (neg_ℤ (pos n)) ≡ MINUS ∷ decimal n
unfolding numeral
numeral_minus zero h = absurd (h refl)
numeral_minus (suc n) h = refl

pub numeral_only : (l : List ℕ) → is_number l ≡ true → numeral (value_in l) ≡ l
unfolding is_number value_in numeral
numeral_only [] e = only_plain [] e
numeral_only (b ∷ l) e = go (eqb b MINUS) refl e
  where
    go : (t : Bool) → eqb b MINUS ≡ t → cond t (is_plain l && not (eqb (decimal_in l) 0)) (is_plain (b ∷ l)) ≡ true
        → numeral (cond t (neg_ℤ (pos (decimal_in l))) (pos (decimal_in (b ∷ l)))) ≡ b ∷ l
    go true m f =
        let both = (and-eq-true_iff (is_plain l) (not (eqb (decimal_in l) 0))).0 f in
        numeral_minus (decimal_in l) (eqb-false (decimal_in l) 0 (not-true (eqb (decimal_in l) 0) both.1))
        ∙ ap₂ (λ (c : ℕ) (r : List ℕ). c ∷ r) (sym (eqb-true b MINUS m)) (only_plain l both.0)
    go false m f = only_plain (b ∷ l) f

-- no byte below `-` stands in a number
pub numeral_without : (b : ℕ) → b < 45 → (z : ℤ) → index_of b (numeral z) ≡ length (numeral z)
unfolding numeral index_of
numeral_without b h (pos n) = digits_without b (omega arith) (decimal n) (spelt n).all
numeral_without b h (negsuc n) =
    rw (ne_eqb MINUS b (λ e. omega arith)) (ap suc (digits_without b (omega arith) (decimal (suc n)) (spelt (suc n)).all))
