-- THEOREMS: what judging, taking and putting a page refuse, exactly: 1, 2, then 9.
-- Assumes nothing.
use Rattle.std.specs.Prelude.{◌≡◌, refl, Bool, true, false, List, ◌≢◌, ◌⊎◌, ℕ, ◌<◌, eqb, length, drop, Err}
use Rattle.std.proofs.Common.{sym, ap, ◌∙◌, subst, inl, inr, ⊎_elim, arith}
use Rattle.words.specs.Bits.{IsBits, first_not_bit}
use Rattle.words.specs.Refusal.{LENGTH, NOT_A_BIT, FIELD_3, refused_at, done_if, in_turn, number_of, place_of, Answer, Done, answer_of, given_by}
use Rattle.words.specs.declared.refusal.Refusal.{Refusal}
use Rattle.words.specs.Laws.Turns.{test_numbered}
use Rattle.fields.specs.Table.{fields_in}
use Rattle.fields.specs.Counts.{counts_in, AllInRange, first_out, FirstOutAt}
use Rattle.fields.specs.Pages.{PAGE_BITS, HEAD_BITS, NUMBER_BIT, number_in, kind_of, page_fields, page_counts, counts_answer3, range_answer, page_answer, record_of, page_taken, is_own, fields_answer3, used_counts, used_bits, put_page_answer}
use Rattle.fields.specs.CountsBack.{in_range_none_out}
use Rattle.fields.specs.Laws.Answers.{judged_right, judged_length, judged_byte, counts_right, counts_wrong}
use Rattle.words.specs.Laws.Turns.{given_answer}
use Rattle.fields.specs.Laws.Pages.{own_below, one_asked, nine_counts, nine_fields, found_length, found_byte, found_field, range_found, only_one_out}
use Rattle.fields.specs.declared.pages.Kind.{Kind}
use Rattle.fields.specs.declared.pages.Kind.TheVariants.{One, Bare}
use Rattle.fields.specs.declared.pages.Page.{Page}
use Rattle.fields.specs.declared.table.Table.TheVariants.{Page1}

-- ---- judging and taking

-- the first field out of range of the page 1 record that page bits stand for has its first bit at p
abbrev pub OutOfPage1 : List ℕ → ℕ → Type 0
OutOfPage1 l p = FirstOutAt HEAD_BITS (fields_in Page1) (counts_in (fields_in Page1) (drop HEAD_BITS l)) p

module _ (l : List ℕ) where
  -- what is judged last, for a kind
  abbrev range_for : Kind → Answer
  range_for kind = counts_answer3 (page_fields kind) (page_counts kind l)

  last_nine : (number_of (range_answer l) ≡ 0) ⊎ (number_of (range_answer l) ≡ 9)
  last_nine =
      let p = first_out 14 (page_fields (kind_of (number_in l))) (page_counts (kind_of (number_in l)) l) in nine_counts (eqb p 0) p

  -- Refused 1: another length than 250, at 0, and nothing else.
  pub page_refused_length : (length l ≢ PAGE_BITS → page_answer l ≡ refused_at LENGTH 0)
      × (number_of (page_answer l) ≡ LENGTH → length l ≢ PAGE_BITS)
  page_refused_length = (judged_length 250 (length l) l (range_answer l), found_length (length l) l (range_answer l) last_nine)

  -- Refused 2: 250 bytes of which one is neither 0 nor 1, at the first, and nothing else.
  pub page_refused_byte : (length l ≡ PAGE_BITS → (IsBits l → ⊥) → page_answer l ≡ refused_at NOT_A_BIT (first_not_bit l))
      × (number_of (page_answer l) ≡ NOT_A_BIT
      → (length l ≡ PAGE_BITS) × (IsBits l → ⊥) × (place_of (page_answer l) ≡ first_not_bit l))
  page_refused_byte = (judged_byte 250 (length l) l (range_answer l), found_byte (length l) l (range_answer l) last_nine)

  -- Only page 1 is refused 9.
  pub only_page_1 : number_of (page_answer l) ≡ FIELD_3 → number_in l ≡ 1
  only_page_1 e =
      let found = found_field (length l) l (range_answer l) e in
      one_asked (number_in l) (only_one_out (kind_of (number_in l)) (drop 14 l) (sym (ap number_of found.2) ∙ e))

  -- Refused 9: 250 bits of page 1 with a field out of its range, at the first bit of the first such field, and nothing else.
  pub page_refused_field : (p : ℕ)
      → (length l ≡ PAGE_BITS → IsBits l → number_in l ≡ 1 → OutOfPage1 l p → page_answer l ≡ refused_at FIELD_3 p)
      × (page_answer l ≡ refused_at FIELD_3 p → (length l ≡ PAGE_BITS) × IsBits l × (number_in l ≡ 1) × OutOfPage1 l p)
  page_refused_field p = (refused, only_then)
    where
      refused : length l ≡ PAGE_BITS → IsBits l → number_in l ≡ 1 → OutOfPage1 l p → page_answer l ≡ refused_at FIELD_3 p
      refused long are one out =
          judged_right 250 (length l) l (range_answer l) long are ∙ ap range_for (ap kind_of one)
          ∙ counts_wrong FIELD_3 14 (page_fields One) (page_counts One l) p out

      only_then : page_answer l ≡ refused_at FIELD_3 p → (length l ≡ PAGE_BITS) × IsBits l × (number_in l ≡ 1) × OutOfPage1 l p
      only_then e =
          let were = found_field (length l) l (range_answer l) (ap number_of e) in
          let one = only_page_1 (ap number_of e) in
          let range : range_for One ≡ refused_at FIELD_3 p = ap range_for (sym (ap kind_of one)) ∙ sym were.2 ∙ e in (
            were.0,
            were.1,
            one,
            subst (OutOfPage1 l) (ap place_of range) (range_found (page_fields One) (page_counts One l) (ap number_of range)),
          )

  -- 250 bits of page 1 whose fields are all in range are not refused.
  pub page_1_taken : length l ≡ PAGE_BITS → IsBits l → number_in l ≡ 1
      → AllInRange (fields_in Page1) (counts_in (fields_in Page1) (drop HEAD_BITS l)) → page_answer l ≡ Done
  page_1_taken long are one all =
      judged_right 250 (length l) l (range_answer l) long are ∙ ap range_for (ap kind_of one)
      ∙ counts_right FIELD_3 14 (page_fields One) (page_counts One l) (in_range_none_out 14 (fields_in Page1) (page_counts One l) all)

  -- 250 bits of any other page are not refused.
  pub other_pages_taken : length l ≡ PAGE_BITS → IsBits l → number_in l ≢ 1 → page_answer l ≡ Done
  other_pages_taken long are other =
      judged_right 250 (length l) l (range_answer l) long are
      ∙ (let out = first_out 14 (page_fields (kind_of (number_in l))) (page_counts (kind_of (number_in l)) l) in
      ⊎_elim (test_numbered (eqb out 0) FIELD_3 out (λ e. omega arith))
      (λ e. absurd (other (one_asked (number_in l) (only_one_out (kind_of (number_in l)) (drop 14 l) e)))) last_nine)

  -- Taking refuses as judging does.
  pub taken_as_judged : answer_of (page_taken l) ≡ page_answer l
  taken_as_judged = given_answer (page_answer l) (record_of (kind_of (number_in l)) l)

  -- A refusal gives nothing else.
  pub refused_only : (r : Refusal) → page_answer l ≡ Err r → page_taken l ≡ Err r
  refused_only r e = ap (λ (a : Answer). given_by a (record_of (kind_of (number_in l)) l)) e

-- ---- putting

-- A page number over 63 is no record's own.
pub not_own : (kind : Kind) (number : ℕ) → 63 < number → is_own kind number ≡ false
not_own kind number h = go (is_own kind number) refl
  where
    go : (own : Bool) → is_own kind number ≡ own → own ≡ false
    go true e = absurd (omega (arith, own_below kind number e))
    go false e = refl

-- 1 and 6 are not the page numbers of bare bits.
pub not_bare : (is_own Bare 1 ≡ false) × (is_own Bare 6 ≡ false)
not_bare = (refl, refl)

module _ (page : Page) (out : List ℕ) where
  -- the first field of the record out of its range has its first bit at p
  abbrev pub OutOfRecord : ℕ → Type 0
  OutOfRecord p = FirstOutAt HEAD_BITS (page_fields page.kind) (used_counts page) p

  abbrev judged_last : Answer
  judged_last = fields_answer3 page.kind page.number (used_counts page)

  put_nine : (number_of judged_last ≡ 0) ⊎ (number_of judged_last ≡ 9)
  put_nine =
      let p = first_out 14 (page_fields page.kind) (used_counts page) in nine_fields (is_own page.kind page.number) (eqb p 0) p

  -- Refused 1: the lent bytes are not 250, at 0, and nothing else.
  pub put_refused_length : (length out ≢ PAGE_BITS → put_page_answer page out ≡ refused_at LENGTH 0)
      × (number_of (put_page_answer page out) ≡ LENGTH → length out ≢ PAGE_BITS)
  put_refused_length = (judged_length 250 (length out) (used_bits page) judged_last, found_length (length out) (used_bits page) judged_last put_nine)

  -- Refused 2: one of the record's own bits is neither 0 nor 1, at the index of the first, and nothing else.
  pub put_refused_byte : (length out ≡ PAGE_BITS → (IsBits (used_bits page) → ⊥)
      → put_page_answer page out ≡ refused_at NOT_A_BIT (first_not_bit (used_bits page)))
      × (number_of (put_page_answer page out) ≡ NOT_A_BIT
      → (length out ≡ PAGE_BITS) × (IsBits (used_bits page) → ⊥) × (place_of (put_page_answer page out) ≡ first_not_bit (used_bits page)))
  put_refused_byte = (judged_byte 250 (length out) (used_bits page) judged_last, found_byte (length out) (used_bits page) judged_last put_nine)

  -- Refused 9 at 9: a page number that is not the record's own.
  pub put_refused_number : length out ≡ PAGE_BITS → IsBits (used_bits page) → is_own page.kind page.number ≡ false
      → put_page_answer page out ≡ refused_at FIELD_3 NUMBER_BIT
  put_refused_number long are own = judged_right 250 (length out) (used_bits page) judged_last long are ∙ rw own refl

  -- Refused 9 at the first bit of the first field out of its range: the page number is the record's own.
  pub put_refused_field : (p : ℕ) → length out ≡ PAGE_BITS → IsBits (used_bits page) → is_own page.kind page.number ≡ true
      → OutOfRecord p → put_page_answer page out ≡ refused_at FIELD_3 p
  put_refused_field p long are own o =
      judged_right 250 (length out) (used_bits page) judged_last long are
      ∙ rw own (counts_wrong FIELD_3 14 (page_fields page.kind) (used_counts page) p o)

  -- And nothing else is refused 9.
  pub put_refused_nine : (p : ℕ) → put_page_answer page out ≡ refused_at FIELD_3 p
      → (length out ≡ PAGE_BITS) × IsBits (used_bits page)
      × (((is_own page.kind page.number ≡ false) × (p ≡ NUMBER_BIT)) ⊎ ((is_own page.kind page.number ≡ true) × OutOfRecord p))
  put_refused_nine p e =
      let were = found_field (length out) (used_bits page) judged_last (ap number_of e) in
      (were.0, were.1, go (is_own page.kind page.number) refl (sym were.2 ∙ e))
    where
      go : (own : Bool) → is_own page.kind page.number ≡ own
          → in_turn (done_if own FIELD_3 9) (counts_answer3 (page_fields page.kind) (used_counts page)) ≡ refused_at FIELD_3 p
          → ((own ≡ false) × (p ≡ 9)) ⊎ ((own ≡ true) × OutOfRecord p)
      go true f e = inr (refl, subst OutOfRecord (ap place_of e) (range_found (page_fields page.kind) (used_counts page) (ap number_of e)))
      go false f e = inl (refl, sym (ap place_of e))
