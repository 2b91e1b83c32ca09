-- THEOREMS: counts and their bits, there and back, over any table of fields; and the first field out of range.
-- Assumes nothing.
use Rattle.std.specs.Prelude.{◌≡◌, refl, Bool, true, false, cond, List, [], ◌∷◌, ◌++◌, ℕ, zero, suc, ◌+◌, ◌≤◌, ◌<◌, ℤ, pos, length, get_or, take, drop}
use Rattle.std.proofs.Common.{sym, ap, ap₂, ◌∙◌, append_assoc, arith, length-append, length-drop, take-add, take_at, drop_at, length-take-le}
use Rattle.std.proofs.Math.Nat.{suc_inj}
use Rattle.words.specs.Bits.{IsBits, unsigned_of}
use Rattle.words.specs.Laws.Digits.{no_bits, bits_append, bits_take, bits_drop, length_bits, bits_are}
use Rattle.fields.specs.Table.{no_field, bit_count, all_usable}
use Rattle.fields.specs.Counts.{count_of, counts_in, bits_for, bits_of_counts, in_range, AllInRange, first_out, FirstOutAt}
use Rattle.fields.specs.Laws.Table.{usable_head, usable_tail}
use Rattle.fields.specs.Laws.Counts.{count_back, field_bits_back, none_needed, more_in_range, range_head, range_tail, not_out}
use Rattle.fields.specs.declared.table.Field.{Field}

-- ---- lengths

-- As many counts are read as there are fields.
pub length_counts : (fs : List Field) (l : List ℕ) → length (counts_in fs l) ≡ length fs
unfolding counts_in
length_counts [] l = refl
length_counts (f ∷ fs) l = ap suc (length_counts fs (drop f.width l))

-- As many bits are written as the fields take.
pub length_bits_of : (fs : List Field) (zs : List ℤ) → length zs ≡ length fs → length (bits_of_counts fs zs) ≡ bit_count fs
unfolding bits_of_counts bit_count
length_bits_of [] zs e = refl
length_bits_of (f ∷ fs) [] e = absurd (omega arith)
length_bits_of (f ∷ fs) (z ∷ zs) e =
    length-append (bits_for f z) (bits_of_counts fs zs)
    ∙ ap₂ (λ (m n : ℕ). m + n) (length_bits f.width (unsigned_of f.width z)) (length_bits_of fs zs (suc_inj e))

-- What is written are bits.
pub bits_of_are : (fs : List Field) (zs : List ℤ) → IsBits (bits_of_counts fs zs)
unfolding bits_of_counts
bits_of_are [] zs = no_bits
bits_of_are (f ∷ fs) [] = no_bits
bits_of_are (f ∷ fs) (z ∷ zs) =
    bits_append (bits_for f z) (bits_of_counts fs zs) (bits_are f.width (unsigned_of f.width z)) (bits_of_are fs zs)

-- ---- there and back

-- Counts in range, put into bits and read again, are the same counts, whatever follows the bits.
pub counts_back : (fs : List Field) (zs : List ℤ) (after : List ℕ) → all_usable fs ≡ true → AllInRange fs zs
    → counts_in fs (bits_of_counts fs zs ++ after) ≡ zs
unfolding counts_in bits_of_counts
counts_back [] [] after ok h = refl
counts_back [] (z ∷ zs) after ok h = absurd (omega (arith, h.as_many))
counts_back (f ∷ fs) [] after ok h = absurd (omega (arith, h.as_many))
counts_back (f ∷ fs) (z ∷ zs) after ok h =
    let w : ℕ = f.width in
    let b : List ℕ = bits_for f z in
    let rest : List ℕ = bits_of_counts fs zs ++ after in
    let count : length b ≡ w = length_bits w (unsigned_of w z) in
    let split : (b ++ bits_of_counts fs zs) ++ after ≡ b ++ rest = append_assoc b (bits_of_counts fs zs) after in
    ap₂ (λ (x y : List ℕ). count_of f x ∷ counts_in fs y)
    (ap (take w) split ∙ take_at b rest w count) (ap (drop w) split ∙ drop_at b rest w count)
    ∙ ap₂ (λ (x : ℤ) (xs : List ℤ). x ∷ xs) (count_back f z (range_head f fs z zs h) (usable_head f fs ok))
    (counts_back fs zs after (usable_tail f fs ok) (range_tail f fs z zs h))

-- Bits, read and put back, are the same bits.
pub count_bits_back : (fs : List Field) (l : List ℕ) → IsBits l → bit_count fs ≤ length l
    → bits_of_counts fs (counts_in fs l) ≡ take (bit_count fs) l
unfolding counts_in bits_of_counts bit_count
count_bits_back [] l are h = refl
count_bits_back (f ∷ fs) l are h =
    let w : ℕ = f.width in
    ap₂ (λ (x y : List ℕ). x ++ y)
    (field_bits_back f (take w l) (bits_take w l are) (length-take-le w l (omega arith)))
    (count_bits_back fs (drop w l) (bits_drop w l are) (simp length-drop (omega arith)))
    ∙ sym (take-add w (bit_count fs) l)

-- ---- the first field out of range

-- Where there is none, all counts are in range.
pub none_out : (at : ℕ) (fs : List Field) (zs : List ℤ) → length zs ≡ length fs → first_out at fs zs ≡ 0 → AllInRange fs zs
unfolding first_out
none_out at [] [] n e = none_needed
none_out at [] (z ∷ zs) n e = absurd (omega arith)
none_out at (f ∷ fs) [] n e = absurd (omega arith)
none_out at (f ∷ fs) (z ∷ zs) n e =
    let both = not_out (in_range f z) (first_out (at + f.width) fs zs) at e in
    more_in_range f fs z zs both.0 (none_out (at + f.width) fs zs (suc_inj n) both.1)

-- Where all counts are in range, there is none.
pub in_range_none_out : (at : ℕ) (fs : List Field) (zs : List ℤ) → AllInRange fs zs → first_out at fs zs ≡ 0
unfolding first_out
in_range_none_out at [] zs h = refl
in_range_none_out at (f ∷ fs) [] h = absurd (omega (arith, h.as_many))
in_range_none_out at (f ∷ fs) (z ∷ zs) h =
    ap (λ (t : Bool). cond t (first_out (at + f.width) fs zs) (at + 1)) (range_head f fs z zs h)
    ∙ in_range_none_out (at + f.width) fs zs (range_tail f fs z zs h)

-- a first field out of range behind a field that is in range
later : (at : ℕ) (f : Field) (fs : List Field) (z : ℤ) (zs : List ℤ) (p : ℕ) → in_range f z ≡ true → FirstOutAt (at + f.width) fs zs p
    → FirstOutAt at (f ∷ fs) (z ∷ zs) p
unfolding bit_count
later at f fs z zs p h o = record {
  index = suc o.index;
  inside = omega (arith, o.inside);
  place = omega (arith, o.place);
  out = λ g. o.out (omega arith);
  before = before;
}
  where
    before : (k : ℕ) → k < suc o.index
        → (k < suc (length zs)) × (in_range (get_or (f ∷ fs) k no_field) (get_or (z ∷ zs) k (pos 0)) ≡ true)
    before zero g = (omega arith, h)
    before (suc k) g = let b = o.before k (omega arith) in (omega (arith, b.0), b.1)

-- The place that is given is the first bit of the first field out of range.
pub first_out_is : (at : ℕ) (fs : List Field) (zs : List ℤ) (p : ℕ) → first_out at fs zs ≡ p → (p ≡ 0 → ⊥) → FirstOutAt at fs zs p
unfolding first_out bit_count
first_out_is at [] zs p e n = absurd (n (sym e))
first_out_is at (f ∷ fs) [] p e n =
    record { index = 0; inside = omega arith; place = omega arith; out = λ g. absurd (omega arith); before = λ k g. absurd (omega arith) }
first_out_is at (f ∷ fs) (z ∷ zs) p e n = go (in_range f z) refl e (λ q. first_out_is (at + f.width) fs zs p q n)
  where
    go : (t : Bool) → in_range f z ≡ t → cond t (first_out (at + f.width) fs zs) (at + 1) ≡ p
        → (first_out (at + f.width) fs zs ≡ p → FirstOutAt (at + f.width) fs zs p) → FirstOutAt at (f ∷ fs) (z ∷ zs) p
    go true h e ih = later at f fs z zs p h (ih e)
    go false h e ih =
        record { index = 0; inside = omega arith; place = omega arith; out = λ g. h; before = λ k g. absurd (omega arith) }

-- a first field out of range, when the first field is in range, is one of the others
sooner : (at : ℕ) (f : Field) (fs : List Field) (z : ℤ) (zs : List ℤ) (p k : ℕ) (o : FirstOutAt at (f ∷ fs) (z ∷ zs) p) → o.index ≡ suc k
    → FirstOutAt (at + f.width) fs zs p
unfolding bit_count
sooner at f fs z zs p k o e = record {
  index = k;
  inside = omega (arith, o.inside);
  place = let q : p ≡ at + (f.width + bit_count (take k fs)) + 1 = rw e at o.place in omega arith;
  out = λ g. rw e at (o.out (omega arith));
  before = λ j g. let b = o.before (suc j) (omega arith) in (omega (arith, b.0), b.1);
}

-- And where a field is the first out of range, its first bit is given.
pub first_out_when : (at : ℕ) (fs : List Field) (zs : List ℤ) (p : ℕ) → FirstOutAt at fs zs p → first_out at fs zs ≡ p
unfolding first_out bit_count
first_out_when at [] zs p o = absurd (omega (arith, o.inside))
first_out_when at (f ∷ fs) [] p o = go o.index refl
  where
    go : (k : ℕ) → o.index ≡ k → at + 1 ≡ p
    go zero e = let q : p ≡ at + 0 + 1 = rw e at o.place in omega arith
    go (suc k) e = absurd (omega (arith, (o.before 0 (omega arith)).0))
first_out_when at (f ∷ fs) (z ∷ zs) p o = go o.index refl (λ k e. first_out_when (at + f.width) fs zs p (sooner at f fs z zs p k o e))
  where
    go : (k : ℕ) → o.index ≡ k → ((k : ℕ) → o.index ≡ suc k → first_out (at + f.width) fs zs ≡ p)
        → cond (in_range f z) (first_out (at + f.width) fs zs) (at + 1) ≡ p
    go zero e ih =
        let here : in_range f z ≡ false = rw e at (o.out (omega arith)) in
        let q : p ≡ at + 0 + 1 = rw e at o.place in
        ap (λ (t : Bool). cond t (first_out (at + f.width) fs zs) (at + 1)) here ∙ omega arith
    go (suc k) e ih = ap (λ (t : Bool). cond t (first_out (at + f.width) fs zs) (at + 1)) (o.before 0 (omega arith)).1 ∙ ih k e
