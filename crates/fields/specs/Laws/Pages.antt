-- Pages: how many counts and bits each kind uses, which page numbers are its own, and what judging finds.
-- Assumes nothing.
use Rattle.std.specs.Prelude.{◌≡◌, refl, Bool, true, false, cond, not, ◌&&◌, List, [], ◌∷◌, ◌≢◌, ◌⊎◌, ℕ, ◌+◌, ◌-◌, ◌^◌, ◌≤◌, ◌<◌, eqb, leb, ℤ, pos, length, take, drop, replicate}
use Rattle.std.proofs.Common.{sym, ap, ◌∙◌, inl, inr, ⊎_elim, arith, length-take-le, take_at, eqb-true, leb-true, le-leb}
use Rattle.std.proofs.Math.Bool.{and-eq-true_iff}
use Rattle.std.proofs.lemmas.Bool.{eqb-false, not-true}
use Rattle.words.specs.Bits.{IsBits, first_not_bit, value_of}
use Rattle.words.specs.Refusal.{LENGTH, NOT_A_BIT, FIELD_3, done_if, in_turn, judged, number_of, place_of, Answer}
use Rattle.words.specs.Laws.Digits.{bits_none, none_not_bit}
use Rattle.fields.specs.Table.{fields_in, bit_count, page6_rows}
use Rattle.fields.specs.Counts.{count_of, counts_in, in_range, first_out, FirstOutAt}
use Rattle.fields.specs.Pages.{kind_of, page_fields, page_counts, record_of, counts_answer3, is_own}
use Rattle.fields.specs.CountsBack.{length_counts, first_out_is}
use Rattle.fields.specs.Laws.Answers.{judged_bits, counts_right}
use Rattle.fields.specs.Laws.Counts.{value_below}
use Rattle.fields.specs.Laws.Table.{count_page1, count_page6, count_no_fields, bits_page1, bits_page6, bits_no_fields}
use Rattle.fields.specs.declared.pages.Kind.{Kind}
use Rattle.fields.specs.declared.pages.Kind.TheVariants.{One, Six, Bare}
use Rattle.fields.specs.declared.table.Field.{Field}
use Rattle.fields.specs.declared.table.Table.TheVariants.{Page6, NoFields}

-- a record has room for the counts of each kind
pub few_counts : (kind : Kind) → length (page_fields kind) ≤ 30
few_counts One = omega (arith, count_page1)
few_counts Six = omega (arith, count_page6)
few_counts Bare = omega (arith, count_no_fields)

-- the body has room for the fields of each kind
pub few_bits : (kind : Kind) → bit_count (page_fields kind) ≤ 236
few_bits One = omega (arith, bits_page1)
few_bits Six = omega (arith, bits_page6)
few_bits Bare = omega (arith, bits_no_fields)

-- ---- what a record uses

-- the front of a record's counts are the counts of the page
pub counts_used : (kind : Kind) (l : List ℕ) (n : ℕ) (zs : List ℤ) → n ≡ length (page_fields kind) → zs ≡ (record_of kind l).counts
    → take n zs ≡ page_counts kind l
counts_used kind l n zs e f =
    ap (take n) f ∙ take_at (page_counts kind l) (replicate (30 - length (page_fields kind)) (pos 0)) n
    (length_counts (page_fields kind) (drop 14 l) ∙ sym e)

-- a record has the counts and the bits that its kind uses, as many as they must be
pub used_inside : (kind : Kind) (n : ℕ) (zs : List ℤ) → n ≡ length (page_fields kind) → length zs ≡ 30 → n ≤ length zs
used_inside kind n zs e long = omega (arith, few_counts kind)

pub parts_as_long : (kind : Kind) (n b : ℕ) (zs : List ℤ) (bits : List ℕ) → n ≡ length (page_fields kind) → b ≡ bit_count (page_fields kind)
    → length zs ≡ 30 → length bits ≡ 236
    → (length (take n zs) ≡ length (page_fields kind)) × (14 + bit_count (page_fields kind) + length (take (236 - b) bits) ≡ 250)
parts_as_long kind n b zs bits e f long carried = (
  length-take-le n zs (used_inside kind n zs e long) ∙ e,
  omega (arith, length-take-le (236 - b) bits (omega arith), few_bits kind),
)

-- ---- the page number

-- a page number that is a record's own takes six bits
pub own_below : (kind : Kind) (number : ℕ) → is_own kind number ≡ true → number < 64
own_below One number e = omega (arith, eqb-true number 1 e)
own_below Six number e = omega (arith, eqb-true number 6 e)
own_below Bare number e =
    omega (arith, leb-true number 63 ((and-eq-true_iff (leb number 63) (not (eqb number 1) && not (eqb number 6))).0 e).0)

-- and asks for the record's kind
pub own_kind : (kind : Kind) (number : ℕ) → is_own kind number ≡ true → kind_of number ≡ kind
own_kind One number e = ap kind_of (eqb-true number 1 e)
own_kind Six number e = ap kind_of (eqb-true number 6 e)
own_kind Bare number e =
    let rest = ((and-eq-true_iff (leb number 63) (not (eqb number 1) && not (eqb number 6))).0 e).1 in
    let both = (and-eq-true_iff (not (eqb number 1)) (not (eqb number 6))).0 rest in
    rw (not-true (eqb number 1) both.0, not-true (eqb number 6) both.1) refl

-- a number of six bits is its kind's own
pub kind_own : (number : ℕ) → number < 64 → is_own (kind_of number) number ≡ true
kind_own number h = go (eqb number 1) (eqb number 6) refl refl
  where
    go : (one six : Bool) → eqb number 1 ≡ one → eqb number 6 ≡ six → is_own (cond one One (cond six Six Bare)) number ≡ true
    go true six e f = e
    go false true e f = f
    go false false e f = rw (le-leb number 63 (omega arith), e, f) refl

-- the page number that asks for a page 1 record
pub one_asked : (number : ℕ) → kind_of number ≡ One → number ≡ 1
one_asked number e = go (eqb number 1) (eqb number 6) refl e
  where
    kind_number : Kind → ℕ
    kind_number One = 1
    kind_number Six = 6
    kind_number Bare = 0

    go : (one six : Bool) → eqb number 1 ≡ one → cond one One (cond six Six Bare) ≡ One → number ≡ 1
    go true six e f = eqb-true number 1 e
    go false true e f = absurd (omega (arith, ap kind_number f))
    go false false e f = absurd (omega (arith, ap kind_number f))

-- ---- what is judged in turn

-- what is judged last refuses nothing but 9
abbrev pub OnlyNine : Answer → Type 0
OnlyNine a = (number_of a ≡ 0) ⊎ (number_of a ≡ 9)

pub nine_counts : (test : Bool) (p : ℕ) → OnlyNine (done_if test FIELD_3 p)
nine_counts true p = inl refl
nine_counts false p = inr refl

pub nine_fields : (own test : Bool) (p : ℕ) → OnlyNine (in_turn (done_if own FIELD_3 9) (done_if test FIELD_3 p))
nine_fields true test p = nine_counts test p
nine_fields false test p = inr refl

-- 250 bytes are asked for, and bits
module _ (m : ℕ) (bits : List ℕ) (a : Answer) where
  pub found_length : OnlyNine a → number_of (judged_bits 250 m bits a) ≡ LENGTH → m ≢ 250
  found_length last e = go (eqb m 250) (eqb (first_not_bit bits) (length bits)) refl e
    where
      go : (long are : Bool) → eqb m 250 ≡ long → number_of (judged long are (first_not_bit bits) a) ≡ 1 → m ≢ 250
      go true true f e = absurd (⊎_elim (λ g. omega arith) (λ g. omega arith) last)
      go true false f e = absurd (omega arith)
      go false are f e = eqb-false m 250 f

  pub found_byte : OnlyNine a → number_of (judged_bits 250 m bits a) ≡ NOT_A_BIT
      → (m ≡ 250) × (IsBits bits → ⊥) × (place_of (judged_bits 250 m bits a) ≡ first_not_bit bits)
  found_byte last e = go (eqb m 250) (eqb (first_not_bit bits) (length bits)) refl refl e
    where
      go : (long are : Bool) → eqb m 250 ≡ long → eqb (first_not_bit bits) (length bits) ≡ are
          → number_of (judged long are (first_not_bit bits) a) ≡ 2
          → (m ≡ 250) × (IsBits bits → ⊥) × (place_of (judged long are (first_not_bit bits) a) ≡ first_not_bit bits)
      go true true f g e = absurd (⊎_elim (λ h. omega arith) (λ h. omega arith) last)
      go true false f g e = (eqb-true m 250 f, λ h. eqb-false (first_not_bit bits) (length bits) g (bits_none bits h), refl)
      go false are f g e = absurd (omega arith)

  pub found_field : number_of (judged_bits 250 m bits a) ≡ FIELD_3 → (m ≡ 250) × IsBits bits × (judged_bits 250 m bits a ≡ a)
  found_field e = go (eqb m 250) (eqb (first_not_bit bits) (length bits)) refl refl e
    where
      go : (long are : Bool) → eqb m 250 ≡ long → eqb (first_not_bit bits) (length bits) ≡ are
          → number_of (judged long are (first_not_bit bits) a) ≡ 9
          → (m ≡ 250) × IsBits bits × (judged long are (first_not_bit bits) a ≡ a)
      go true true f g e = (eqb-true m 250 f, none_not_bit bits (eqb-true (first_not_bit bits) (length bits) g), refl)
      go true false f g e = absurd (omega arith)
      go false are f g e = absurd (omega arith)

-- ---- counts

module _ (fs : List Field) (zs : List ℤ) where
  pub range_found : number_of (counts_answer3 fs zs) ≡ FIELD_3 → FirstOutAt 14 fs zs (place_of (counts_answer3 fs zs))
  range_found e = go (eqb (first_out 14 fs zs) 0) refl e
    where
      go : (none : Bool) → eqb (first_out 14 fs zs) 0 ≡ none → number_of (done_if none 9 (first_out 14 fs zs)) ≡ 9
          → FirstOutAt 14 fs zs (place_of (done_if none 9 (first_out 14 fs zs)))
      go true f e = absurd (omega arith)
      go false f e = first_out_is 14 fs zs (first_out 14 fs zs) refl (eqb-false (first_out 14 fs zs) 0 f)

-- ---- fields that use their whole width are never out of range

abbrev is_whole : Field → Bool
is_whole f = not f.signed && (eqb f.least 0 && eqb (f.most + 1) (2 ^ f.width))

unfoldable all_whole : List Field → Bool
all_whole [] = true
all_whole (f ∷ fs) = is_whole f && all_whole fs

whole_range : (f : Field) (l : List ℕ) → is_whole f ≡ true → in_range f (count_of f (take f.width l)) ≡ true
whole_range f l h =
    let v : ℕ = value_of (take f.width l) in
    let sign = (and-eq-true_iff (not f.signed) (eqb f.least 0 && eqb (f.most + 1) (2 ^ f.width))).0 h in
    let ends = (and-eq-true_iff (eqb f.least 0) (eqb (f.most + 1) (2 ^ f.width))).0 sign.1 in
    let least = eqb-true f.least 0 ends.0 in
    let most = eqb-true (f.most + 1) (2 ^ f.width) ends.1 in
    let below : v < 2 ^ f.width = value_below f.width l in
    rw (not-true f.signed sign.0)
    ((and-eq-true_iff (leb f.least v) (leb v f.most)).1 (le-leb f.least v (omega arith), le-leb v f.most (omega arith)))

whole_none_out : (at : ℕ) (fs : List Field) (l : List ℕ) → all_whole fs ≡ true → first_out at fs (counts_in fs l) ≡ 0
unfolding all_whole first_out counts_in
whole_none_out at [] l h = refl
whole_none_out at (f ∷ fs) l h =
    let both = (and-eq-true_iff (is_whole f) (all_whole fs)).0 h in
    ap (λ (t : Bool). cond t (first_out (at + f.width) fs (counts_in fs (drop f.width l))) (at + 1)) (whole_range f l both.0)
    ∙ whole_none_out (at + f.width) fs (drop f.width l) both.1

page6_whole : all_whole (fields_in Page6) ≡ true
unfolding all_whole fields_in page6_rows
page6_whole = refl

none_whole : all_whole (fields_in NoFields) ≡ true
unfolding all_whole fields_in
none_whole = refl

-- so only a page 1 record is
pub only_one_out : (kind : Kind) (l : List ℕ) → number_of (counts_answer3 (page_fields kind) (counts_in (page_fields kind) l)) ≡ FIELD_3 → kind ≡ One
only_one_out One l e = refl
only_one_out Six l e =
    absurd (omega (arith, ap number_of (counts_right FIELD_3 14 (fields_in Page6) (counts_in (fields_in Page6) l) (whole_none_out 14 (fields_in Page6) l page6_whole))))
only_one_out Bare l e =
    absurd (omega (arith, ap number_of (counts_right FIELD_3 14 (fields_in NoFields) (counts_in (fields_in NoFields) l) (whole_none_out 14 (fields_in NoFields) l none_whole))))
