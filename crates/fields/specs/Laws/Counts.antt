-- Counts and their bits, field by field: one field, one step in a table, two tables, and what is in range.
-- Assumes nothing.
use Rattle.std.specs.Prelude.{◌≡◌, refl, Bool, true, false, cond, ◌&&◌, ◌||◌, ℕ, zero, suc, ◌+◌, ◌-◌, ◌^◌, ◌≤◌, ◌<◌, leb, eqb, ℤ, pos, negsuc, length, get_or, drop, set}
use Rattle.std.proofs.Common.{sym, ◌∙◌, add-one, arith, length-append, length-take, drop_of_length-le, pow_mono, drop-drop, take_all, take_at, drop_at, length-take-le, leb-true, ne_eqb}
use Rattle.std.proofs.Math.Path.{ap, ap₂}
use Rattle.std.proofs.Math.Bool.{and-eq-true_iff}
use mathlib.Core.List.{List, [], ◌∷◌, ◌++◌, append_assoc, append-nil}
use Rattle.std.proofs.Math.Nat.{suc_inj}
use Rattle.std.proofs.Math.ListN.{take, take-append-drop}
use Rattle.std.proofs.lemmas.List.Edits.{sets, sets-eq}
use Rattle.std.proofs.Math.Seq.{take-suc-set}
use Rattle.std.specs.Int.Signed.{mag, non_neg}
use Rattle.words.specs.Bits.{IsBits, value_of, bits_of, signed_of, unsigned_of, holds_signed}
use Rattle.words.specs.RoundTrip.{number_back, bits_back, signed_back, signed_bits_back}
use Rattle.words.specs.Laws.Digits.{value_lt, length_bits}
use Rattle.words.specs.Laws.Signs.{holds_when}
use Rattle.fields.specs.Table.{no_field, bit_count, usable}
use Rattle.fields.specs.Counts.{count_of, counts_in, bits_for, bits_of_counts, in_range, AllInRange, first_out}
use Rattle.fields.specs.Laws.Table.{usable_some, usable_few, usable_signed, usable_unsigned}
use Rattle.fields.specs.declared.table.Field.{Field}

-- ---- the number of the first w bits

pub value_below : (w : ℕ) (l : List ℕ) → value_of (take w l) < 2 ^ w
value_below w l =
    let most : 2 ^ length (take w l) ≤ 2 ^ w = pow_mono {i = length (take w l)} {j = w} (omega (arith, length-take w l)) in
    omega (arith, value_lt (take w l))

-- ---- one count in its field's range

module _ (f : Field) (z : ℤ) (h : in_range f z ≡ true) where
  halves : ((f.signed || non_neg z) ≡ true) × ((leb f.least (mag z) && leb (mag z) f.most) ≡ true)
  halves = (and-eq-true_iff (f.signed || non_neg z) (leb f.least (mag z) && leb (mag z) f.most)).0 h

  pub range_most : mag z ≤ f.most
  range_most = leb-true (mag z) f.most ((and-eq-true_iff (leb f.least (mag z)) (leb (mag z) f.most)).0 halves.1).1

  range_sign : f.signed ≡ false → non_neg z ≡ true
  range_sign e = rw e at halves.0

  -- with a sign, the width holds it
  pub range_held : usable f ≡ true → f.signed ≡ true → holds_signed f.width z ≡ true
  range_held ok s =
      holds_when f.width z (usable_some f ok) (omega (arith, usable_few f ok))
      (omega (arith, range_most, (usable_signed f ok s).0))

  -- without one, it is a number that the width holds
  pub range_fits : usable f ≡ true → f.signed ≡ false → mag z < 2 ^ f.width
  range_fits ok s = omega (arith, range_most, usable_unsigned f ok s)

  range_number : f.signed ≡ false → z ≡ pos (mag z)
  range_number s = go z (range_sign s)
    where
      go : (y : ℤ) → non_neg y ≡ true → y ≡ pos (mag y)
      go (pos n) e = refl
      go (negsuc n) e = absurd (let c : ◌≡◌ {A = ℕ} 0 1 = cc in omega arith)

  pub range_unsigned : f.signed ≡ false → unsigned_of f.width z ≡ mag z
  range_unsigned s = ap (unsigned_of f.width) (range_number s)

  -- its bits stand for it
  pub count_back : usable f ≡ true → count_of f (bits_for f z) ≡ z
  count_back ok = go f.signed refl
    where
      go : (s : Bool) → f.signed ≡ s → cond s (signed_of (bits_for f z)) (pos (value_of (bits_for f z))) ≡ z
      go true s = signed_back f.width z (range_held ok s)
      go false s =
          ap pos (ap (λ (n : ℕ). value_of (bits_of f.width n)) (range_unsigned s) ∙ number_back f.width (mag z) (range_fits ok s))
          ∙ sym (range_number s)

-- the bits of the count that a field's bits stand for are those bits
pub field_bits_back : (f : Field) (l : List ℕ) → IsBits l → length l ≡ f.width → bits_for f (count_of f l) ≡ l
field_bits_back f l h n = go f.signed
  where
    go : (s : Bool) → bits_of f.width (unsigned_of f.width (cond s (signed_of l) (pos (value_of l)))) ≡ l
    go true = ap (λ (w : ℕ). bits_of w (unsigned_of w (signed_of l))) (sym n) ∙ signed_bits_back l h
    go false = ap (λ (w : ℕ). bits_of w (value_of l)) (sym n) ∙ bits_back l h

-- ---- all counts in range

pub none_needed : AllInRange [] []
none_needed = record { as_many = refl; each = λ k h. absurd (omega arith) }

pub more_in_range : (f : Field) (fs : List Field) (z : ℤ) (zs : List ℤ) → in_range f z ≡ true → AllInRange fs zs → AllInRange (f ∷ fs) (z ∷ zs)
more_in_range f fs z zs h a = record { as_many = ap suc a.as_many; each = go }
  where
    go : (k : ℕ) → k < suc (length fs) → in_range (get_or (f ∷ fs) k no_field) (get_or (z ∷ zs) k (pos 0)) ≡ true
    go zero g = h
    go (suc k) g = a.each k (omega arith)

pub range_head : (f : Field) (fs : List Field) (z : ℤ) (zs : List ℤ) → AllInRange (f ∷ fs) (z ∷ zs) → in_range f z ≡ true
range_head f fs z zs a = a.each 0 (omega arith)

pub range_tail : (f : Field) (fs : List Field) (z : ℤ) (zs : List ℤ) → AllInRange (f ∷ fs) (z ∷ zs) → AllInRange fs zs
range_tail f fs z zs a = record { as_many = suc_inj a.as_many; each = λ k h. a.each (suc k) (omega arith) }

-- what a first field out of range is not
pub not_out : (t : Bool) (a b : ℕ) → cond t a (b + 1) ≡ 0 → (t ≡ true) × (a ≡ 0)
not_out true a b e = (refl, e)
not_out false a b e = absurd (omega arith)

-- ---- the first of the fields and counts that are left, as a loop takes them

-- a count read into its place
pub counts_step : {f : Field} {fs gs : List Field} (left : gs ≡ f ∷ fs) (k at : ℕ) (l : List ℕ) (zs : List ℤ) (z : ℤ) → k < length zs
    → z ≡ count_of f (take f.width (drop at l))
    → take (k + 1) (set zs k z) ++ counts_in fs (drop (at + f.width) l) ≡ take k zs ++ counts_in gs (drop at l)
unfolding counts_in
counts_step {f} {fs} {gs} left k at l zs z h e =
    ap₂ (λ (x : List ℤ) (y : List ℕ). x ++ counts_in fs y)
    (ap (λ (n : ℕ). take n (set zs k z)) (add-one k) ∙ take-suc-set zs k z h) (sym (drop-drop f.width at l))
    ∙ append_assoc (take k zs) (z ∷ []) (counts_in fs (drop f.width (drop at l)))
    ∙ ap (λ (x : ℤ). take k zs ++ (x ∷ counts_in fs (drop f.width (drop at l)))) e
    ∙ ap (λ (hs : List Field). take k zs ++ counts_in hs (drop at l)) (sym left)

module _ {f : Field} {fs gs : List Field} {z : ℤ} {zs ys : List ℤ} (left : gs ≡ f ∷ fs) (counts : ys ≡ z ∷ zs) (at : ℕ) where
  out_first : first_out at gs ys ≡ cond (in_range f z) (first_out (at + f.width) fs zs) (at + 1)
  unfolding first_out
  out_first = ap₂ (first_out at) left counts

  -- a count found out of range, or in range
  pub out_here : in_range f z ≡ false → first_out at gs ys ≡ at + 1
  out_here e = out_first ∙ rw e refl

  pub out_later : in_range f z ≡ true → first_out at gs ys ≡ first_out (at + f.width) fs zs
  out_later e = out_first ∙ rw e refl

  pub in_here : first_out at gs ys ≡ 0 → (in_range f z ≡ true) × (first_out (at + f.width) fs zs ≡ 0)
  in_here e = not_out (in_range f z) (first_out (at + f.width) fs zs) at (sym out_first ∙ e)

  pub bits_of_left : bits_of_counts gs ys ≡ bits_for f z ++ bits_of_counts fs zs
  unfolding bits_of_counts
  bits_of_left = ap₂ bits_of_counts left counts

-- ---- one count written

module _ (row : List ℕ) (at : ℕ) (b : List ℕ) (w t : ℕ) (n : length b ≡ w) (inside : at + w ≤ t) (long : t ≤ length row) where
  split : sets row at b ≡ take at row ++ b ++ drop (at + length b) row
  split = sets-eq b row at (omega arith)

  width : length (take at row ++ b) ≡ at + w
  width = omega (arith, length-append (take at row) b, length-take-le at row (omega arith))

  put_front : take (at + w) (sets row at b) ≡ take at row ++ b
  put_front = ap (take (at + w)) split ∙ take_at (take at row ++ b) (drop (at + length b) row) (at + w) width

  put_behind : drop t (sets row at b) ≡ drop t row
  put_behind =
      let e : at + w + (t - (at + w)) ≡ t = omega arith in
      let f : at + length b + (t - (at + w)) ≡ t = omega arith in
      ap (λ (m : ℕ). drop m (sets row at b)) (sym e)
      ∙ sym (drop-drop (t - (at + w)) (at + w) (sets row at b))
      ∙ ap (drop (t - (at + w))) (ap (drop (at + w)) split ∙ drop_at (take at row ++ b) (drop (at + length b) row) (at + w) width)
      ∙ drop-drop (t - (at + w)) (at + length b) row
      ∙ ap (λ (m : ℕ). drop m row) f

  put_step : (rest : List ℕ) → take (at + w) (sets row at b) ++ (rest ++ drop t (sets row at b)) ≡ take at row ++ ((b ++ rest) ++ drop t row)
  put_step rest =
      ap₂ (λ (x y : List ℕ). x ++ (rest ++ y)) put_front put_behind
      ∙ append_assoc (take at row) b (rest ++ drop t row)
      ∙ ap (λ (x : List ℕ). take at row ++ x) (sym (append_assoc b rest (drop t row)))

-- the bits of the first count that is left, put into their place
pub write_step : {f : Field} {fs gs : List Field} {z : ℤ} {zs ys : List ℤ} (left : gs ≡ f ∷ fs) (counts : ys ≡ z ∷ zs) (row : List ℕ) (at t : ℕ)
    → at + f.width ≤ t → t ≤ length row
    → take (at + f.width) (sets row at (bits_for f z)) ++ (bits_of_counts fs zs ++ drop t (sets row at (bits_for f z)))
    ≡ take at row ++ (bits_of_counts gs ys ++ drop t row)
write_step {f} {fs} {gs} {z} {zs} {ys} left counts row at t inside long =
    put_step row at (bits_for f z) f.width t (length_bits f.width (unsigned_of f.width z)) inside long (bits_of_counts fs zs)
    ∙ ap (λ (x : List ℕ). take at row ++ (x ++ drop t row)) (sym (bits_of_left left counts at))

-- ---- the end of a table

pub counts_done : (fs : List Field) (l : List ℕ) (zs : List ℤ) (k : ℕ) → length fs ≤ k → length zs ≤ k
    → take k zs ++ counts_in (drop k fs) l ≡ zs
unfolding counts_in
counts_done fs l zs k h g = rw (drop_of_length-le fs h, take_all k zs g, append-nil)

-- nothing is left to write
pub all_written : {gs : List Field} (ys : List ℤ) (row : List ℕ) (at t : ℕ) → gs ≡ [] → at + bit_count gs ≡ t
    → take at row ++ (bits_of_counts gs ys ++ drop t row) ≡ row
unfolding bits_of_counts bit_count
all_written {gs} ys row at t g e =
    let n : at ≡ t = omega (arith, ap bit_count g) in
    rw (g, ← n) (take-append-drop at row)

-- ---- two tables, one after the other

pub counts_append : (fs gs : List Field) (l : List ℕ) → counts_in (fs ++ gs) l ≡ counts_in fs l ++ counts_in gs (drop (bit_count fs) l)
unfolding counts_in bit_count
counts_append [] gs l = refl
counts_append (f ∷ fs) gs l =
    ap (λ (zs : List ℤ). count_of f (take f.width l) ∷ zs)
    (counts_append fs gs (drop f.width l)
    ∙ ap (λ (x : List ℕ). counts_in fs (drop f.width l) ++ counts_in gs x) (drop-drop (bit_count fs) f.width l))

pub bits_of_append : (fs gs : List Field) (zs ys : List ℤ) → length zs ≡ length fs
    → bits_of_counts (fs ++ gs) (zs ++ ys) ≡ bits_of_counts fs zs ++ bits_of_counts gs ys
unfolding bits_of_counts
bits_of_append [] gs [] ys e = refl
bits_of_append [] gs (z ∷ zs) ys e = absurd (omega arith)
bits_of_append (f ∷ fs) gs [] ys e = absurd (omega arith)
bits_of_append (f ∷ fs) gs (z ∷ zs) ys e =
    ap (λ (x : List ℕ). bits_for f z ++ x) (bits_of_append fs gs zs ys (suc_inj e))
    ∙ sym (append_assoc (bits_for f z) (bits_of_counts fs zs) (bits_of_counts gs ys))

-- the first out of range is one of the first table, where there is one, and else one of the second
abbrev pub out_of_two : ℕ → ℕ → ℕ
out_of_two a b = cond (eqb a 0) b a

pub out_append : (at : ℕ) (fs gs : List Field) (zs ys : List ℤ) → length zs ≡ length fs
    → first_out at (fs ++ gs) (zs ++ ys) ≡ out_of_two (first_out at fs zs) (first_out (at + bit_count fs) gs ys)
unfolding first_out bit_count
out_append at [] gs [] ys e = ap (λ (n : ℕ). first_out n gs ys) (let q : at ≡ at + 0 = omega arith in q)
out_append at [] gs (z ∷ zs) ys e = absurd (omega arith)
out_append at (f ∷ fs) gs [] ys e = absurd (omega arith)
out_append at (f ∷ fs) gs (z ∷ zs) ys e =
    go (in_range f z) (first_out (at + f.width) (fs ++ gs) (zs ++ ys)) (first_out (at + f.width) fs zs) (first_out (at + (f.width + bit_count fs)) gs ys)
    (out_append (at + f.width) fs gs zs ys (suc_inj e)
    ∙ ap (λ (n : ℕ). out_of_two (first_out (at + f.width) fs zs) (first_out n gs ys))
    (let q : at + f.width + bit_count fs ≡ at + (f.width + bit_count fs) = omega arith in q))
  where
    go : (t : Bool) (a b c : ℕ) → a ≡ out_of_two b c → cond t a (at + 1) ≡ out_of_two (cond t b (at + 1)) c
    go true a b c q = q
    go false a b c q = ap (λ (x : Bool). cond x c (at + 1)) (sym (ne_eqb (at + 1) 0 (λ n. omega arith)))
