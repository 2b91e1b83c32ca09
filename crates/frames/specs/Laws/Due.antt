-- Any answer, what is lent as a frame, the equations and the fields: what is refused is what is due, and the other way round.
-- Assumes nothing.
use Rattle.std.specs.Prelude.{◌≡◌, refl, Bool, cond, List, [], ◌∷◌, ◌⊎◌, ◌≢◌, ◌↔◌, ℕ, zero, suc, ◌≤◌, ◌<◌, eqb, ltb, length, get_or, drop}
use Rattle.std.proofs.Common.{sym, ap, ◌∙◌, inl, inr, arith, eq-eqb, ne_eqb, lt-ltb, le-ltb}
use Rattle.words.specs.Bits.{first_not_bit}
use Rattle.words.specs.Refusal.{LENGTH, NOT_A_BIT, FIELD_2, FIELD_3, refused_at, done_if, number_of, place_of, Answer, Done}
use Rattle.words.specs.Laws.Digits.{none_not_bit, not_bit_le}
use Rattle.tables.specs.Matrix.{Matrix}
use Rattle.tables.specs.Laws.Cases.{same_or_not, before_or_not}
use Rattle.tables.specs.declared.matrix.Subframe.{Subframe}
use Rattle.tables.specs.declared.matrix.Subframe.TheVariants.{Two, Three}
use Rattle.parity.specs.Equations.{first_unmet}
use Rattle.parity.specs.ExactlyOne.{none_unmet, first_unmet_is}
use Rattle.fields.specs.Table.{fields_in}
use Rattle.fields.specs.Counts.{counts_in}
use Rattle.fields.specs.CountsBack.{first_out_is, first_out_when}
use Rattle.fields.specs.Subframe2.{fields2, first_out2}
use Rattle.fields.specs.Pages.{HEAD_BITS, number_in}
use Rattle.fields.specs.declared.table.Table.TheVariants.{Page1}
use Rattle.frames.specs.Frame.{FRAME}
use Rattle.frames.specs.Read.{ranges_answer, frame_judged}
use Rattle.frames.specs.Due.{RefusesWith, AreSymbols, FirstByteAt, LentDue, length_due, byte_due, FirstUnmetAt, field_number, FieldOutAt, out_2, out_3, SubframeDue, equation_due, check_due, field_due}
use Rattle.frames.specs.Laws.Good.{first_out3, other_page, page_1_out}

-- ---- any answer

-- an answer is done, or some refusal is due
pub data Verdict (a : Answer) (Due : ℕ → ℕ → Type 0) : Type 0 where
  fine : a ≡ Done → Verdict a Due
  due : (n p : ℕ) → Due n p → Verdict a Due

pub refused_by : (a : Answer) (Due : ℕ → ℕ → Type 0) → ((n p : ℕ) → Due n p → (a ≡ refused_at n p) × (n ≢ 0)) → Verdict a Due
    → (n p : ℕ) → RefusesWith a n p ↔ Due n p
refused_by a Due when verdict n p = (λ h. so verdict h, back)
  where
    so : Verdict a Due → RefusesWith a n p → Due n p
    so (fine e) h = absurd (h.some (sym h.number_is ∙ ap number_of e))
    so (due m q d) h =
        let is = (when m q d).0 in
        let same_number : m ≡ n = sym (ap number_of is) ∙ h.number_is in
        let same_place : q ≡ p = sym (ap place_of is) ∙ h.place_is in
        rw same_number at (rw same_place at d)

    back : Due n p → RefusesWith a n p
    back d = let is = when n p d in record { number_is = ap number_of is.0; place_is = ap place_of is.0; some = is.1 }

-- ---- 1 and 2

pub first_byte_is : (l : List ℕ) → first_not_bit l < length l → FirstByteAt l (first_not_bit l)
unfolding first_not_bit
first_byte_is [] h = absurd (omega arith)
first_byte_is (b ∷ l) h = go (before_or_not b 2) (first_byte_is l)
  where
    later : FirstByteAt l (first_not_bit l) → b < 2 → FirstByteAt (b ∷ l) (suc (first_not_bit l))
    later r small = record { inside = omega (arith, r.inside); no_bit = r.no_bit; before = before }
      where
        before : (k : ℕ) → k < suc (first_not_bit l) → get_or (b ∷ l) k 0 < 2
        before zero g = small
        before (suc k) g = r.before k (omega arith)

    go : (b < 2) ⊎ (2 ≤ b) → (first_not_bit l < length l → FirstByteAt l (first_not_bit l)) → FirstByteAt (b ∷ l) (cond (ltb b 2) (suc (first_not_bit l)) 0)
    go (inl small) ih =
        let e = lt-ltb b 2 small in
        rw e (later (ih (let g : cond (ltb b 2) (suc (first_not_bit l)) 0 < suc (length l) = h in let k : suc (first_not_bit l) < suc (length l) = rw e at g in omega arith)) small)
    go (inr large) ih = rw (le-ltb b 2 large) (record { inside = omega arith; no_bit = large; before = λ k g. absurd (omega arith) })

pub first_byte_when : (l : List ℕ) (p : ℕ) → FirstByteAt l p → first_not_bit l ≡ p
unfolding first_not_bit
first_byte_when [] p h = absurd (omega (arith, h.inside))
first_byte_when (b ∷ l) zero h = rw (le-ltb b 2 h.no_bit) refl
first_byte_when (b ∷ l) (suc p) h =
    rw (lt-ltb b 2 (h.before 0 (omega arith)))
    (ap suc (first_byte_when l p
    (record { inside = omega (arith, h.inside); no_bit = h.no_bit; before = λ k g. h.before (suc k) (omega arith) })))

-- ---- what is lent

pub lent_due_refused : (f : List ℕ) (n p : ℕ) → LentDue f n p → (a : Answer) → frame_judged f a ≡ refused_at n p
lent_due_refused f n p (length_due h) a = rw (ne_eqb (length f) FRAME h) refl
lent_due_refused f n p (byte_due q long h) a =
    let at = first_byte_when f q h in
    rw (eq-eqb (length f) FRAME long, ne_eqb (first_not_bit f) (length f) (λ e. omega (arith, h.inside))) (ap (refused_at NOT_A_BIT) at)

pub lent_some : (f : List ℕ) (n p : ℕ) → LentDue f n p → n ≢ 0
lent_some f n p (length_due h) e = omega arith
lent_some f n p (byte_due q long h) e = omega arith

-- it is due, or the frame is 1800 symbols
pub data LentView (f : List ℕ) : Type 0 where
  lent_due : (n p : ℕ) → LentDue f n p → LentView f
  lent_fine : AreSymbols f → LentView f

pub lent_view : (f : List ℕ) → LentView f
lent_view f = by_length (same_or_not (length f) FRAME)
  where
    by_byte : length f ≡ FRAME → (first_not_bit f ≡ length f) ⊎ (first_not_bit f ≢ length f) → LentView f
    by_byte long (inl e) = lent_fine (record { long = long; bits = none_not_bit f e })
    by_byte long (inr ne) =
        let inside : first_not_bit f < length f = omega (arith, not_bit_le f, ne) in
        lent_due NOT_A_BIT (first_not_bit f) (byte_due (first_not_bit f) long (first_byte_is f inside))

    by_length : (length f ≡ FRAME) ⊎ (length f ≢ FRAME) → LentView f
    by_length (inl long) = by_byte long (same_or_not (first_not_bit f) (length f))
    by_length (inr h) = lent_due LENGTH 0 (length_due h)

-- ---- equations

pub unmet_when : (M : Matrix) (x : List ℕ) (p : ℕ) → FirstUnmetAt M x p → first_unmet M x ≡ p
unmet_when M x p h = go (same_or_not (first_unmet M x) 0)
  where
    go : (first_unmet M x ≡ 0) ⊎ (first_unmet M x ≢ 0) → first_unmet M x ≡ p
    go (inl e) = absurd (h.unmet ((none_unmet M x e).met p h.first h.last))
    go (inr ne) =
        let v = first_unmet M x in
        let is = first_unmet_is M x v refl ne in
        order (before_or_not v p) (before_or_not p v)
        (λ less. is.2 (h.before v is.0 less)) (λ less. h.unmet (is.3 p h.first less))
      where
        order : (first_unmet M x < p) ⊎ (p ≤ first_unmet M x) → (p < first_unmet M x) ⊎ (first_unmet M x ≤ p)
            → (first_unmet M x < p → ⊥) → (p < first_unmet M x → ⊥) → first_unmet M x ≡ p
        order (inl a) b no_less no_more = absurd (no_less a)
        order (inr a) (inl b) no_less no_more = absurd (no_more b)
        order (inr a) (inr b) no_less no_more = omega arith

pub unmet_is : (M : Matrix) (x : List ℕ) → first_unmet M x ≢ 0 → FirstUnmetAt M x (first_unmet M x)
unmet_is M x ne =
    let is = first_unmet_is M x (first_unmet M x) refl ne in
    record { first = is.0; last = is.1; unmet = is.2; before = is.3 }

-- ---- fields

pub field_out_refused : (s : Subframe) (bits : List ℕ) (p : ℕ) → FieldOutAt s bits p → ranges_answer s bits ≡ refused_at (field_number s) p
field_out_refused s bits p (out_2 b q h) =
    ap (λ (v : ℕ). done_if (eqb v 0) FIELD_2 v) (first_out_when 0 fields2 (counts_in fields2 b) q h)
    ∙ ap (λ (t : Bool). done_if t FIELD_2 q) (ne_eqb q 0 (λ e. omega (arith, h.place)))
field_out_refused s bits p (out_3 b q one h) =
    ap (λ (v : ℕ). done_if (eqb v 0) FIELD_3 v)
    (page_1_out b one ∙ first_out_when HEAD_BITS (fields_in Page1) (counts_in (fields_in Page1) (drop HEAD_BITS b)) q h)
    ∙ ap (λ (t : Bool). done_if t FIELD_3 q) (ne_eqb q 0 (λ e. omega (arith, h.place)))

-- fields are in range, or one is the first that is out
pub data RangeView (s : Subframe) (bits : List ℕ) : Type 0 where
  ranges_fine : ranges_answer s bits ≡ Done → RangeView s bits
  range_out : (p : ℕ) → FieldOutAt s bits p → RangeView s bits

pub range_view : (s : Subframe) (bits : List ℕ) → RangeView s bits
range_view Two bits = go (same_or_not (first_out2 bits) 0)
  where
    go : (first_out2 bits ≡ 0) ⊎ (first_out2 bits ≢ 0) → RangeView Two bits
    go (inl e) = ranges_fine (ap (λ (p : ℕ). done_if (eqb p 0) FIELD_2 p) e)
    go (inr ne) = range_out (first_out2 bits) (out_2 bits (first_out2 bits) (first_out_is 0 fields2 (counts_in fields2 bits) (first_out2 bits) refl ne))
range_view Three bits = go (same_or_not (first_out3 bits) 0) (same_or_not (number_in bits) 1)
  where
    go : (first_out3 bits ≡ 0) ⊎ (first_out3 bits ≢ 0) → (number_in bits ≡ 1) ⊎ (number_in bits ≢ 1) → RangeView Three bits
    go (inl e) one = ranges_fine (ap (λ (p : ℕ). done_if (eqb p 0) FIELD_3 p) e)
    go (inr ne) (inr other) = absurd (ne (other_page bits other))
    go (inr ne) (inl one) =
        range_out (first_out3 bits)
        (out_3 bits (first_out3 bits) one
        (first_out_is HEAD_BITS (fields_in Page1) (counts_in (fields_in Page1) (drop HEAD_BITS bits)) (first_out3 bits) (sym (page_1_out bits one)) ne))

-- ---- a subframe

-- the numbers are those of the table
pub subframe_some : (s : Subframe) (f : List ℕ) (n p : ℕ) → SubframeDue s f n p → n ≢ 0
subframe_some Two f n p (equation_due q h) e = omega arith
subframe_some Two f n p (check_due m r) e = omega arith
subframe_some Two f n p (field_due q m r h) e = omega arith
subframe_some Three f n p (equation_due q h) e = omega arith
subframe_some Three f n p (check_due m r) e = omega arith
subframe_some Three f n p (field_due q m r h) e = omega arith
