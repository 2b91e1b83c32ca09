-- Contents that are built, and what is due in building.
-- Assumes nothing.
use Rattle.std.specs.Prelude.{◌≡◌, Bool, true, false, ◌&&◌, List, ◌⊎◌, ◌≢◌, ℕ, ◌≤◌, ◌<◌, eqb, leb, length}
use Rattle.std.proofs.Math.Path.{refl, ap, ap₂}
use Rattle.std.proofs.Common.{sym, ◌∙◌, true≢false, inl, inr}
use Rattle.std.proofs.Math.Bool.{and-eq-true_iff}
use native.Mathlib.Omega.{arith}
use borrow.Author.Tests.{eq-eqb, ne_eqb, eqb-true, le-leb, lt-leb, leb-true}
use Rattle.words.specs.Bits.{first_not_bit}
use Rattle.words.specs.Refusal.{LENGTH, NOT_A_BIT, TIME, FIELD_2, FIELD_3, refused_at, done_if, in_turn, Answer, Done}
use Rattle.words.specs.Laws.Digits.{bits_none, none_not_bit, not_bit_le}
use Rattle.words.specs.Laws.Turns.{both_done, test_done, judged_on, judged_done}
use Rattle.tables.specs.Laws.Cases.{same_or_not, before_or_not}
use Rattle.tables.specs.declared.matrix.Subframe.TheVariants.{Three}
use Rattle.fields.specs.Table.{fields_in}
use Rattle.fields.specs.Counts.{AllInRange, first_out}
use Rattle.fields.specs.CountsBack.{none_out, in_range_none_out, first_out_is, first_out_when}
use Rattle.fields.specs.Subframe2.{COUNTS_2, counts_answer}
use Rattle.fields.specs.Pages.{PAGE_BITS, range_answer}
use Rattle.fields.specs.Laws.Table.{count_subframe2}
use Rattle.fields.specs.declared.table.Table.TheVariants.{Subframe2}
use Rattle.frames.specs.Frame.{Contents, GoodContents, FRAME}
use Rattle.frames.specs.Build.{build_lengths, contents_answer, build_answer}
use Rattle.frames.specs.Due.{RightSizes, AreLent, BuildDue, size_due, page_byte_due, toi_due, count_due, page_field_due}
use Rattle.frames.specs.Laws.Due.{Verdict, fine, due, first_byte_is, first_byte_when, RangeView, ranges_fine, range_out, range_view, field_out_refused}
use Rattle.frames.specs.Laws.Good.{page_done, done_page}

-- ---- lengths

sizes_fit : (c : Contents) (out : List ℕ) → RightSizes c out → build_lengths c out ≡ true
sizes_fit c out h =
    rw (eq-eqb (length c.counts) COUNTS_2 h.counts, eq-eqb (length c.page) PAGE_BITS h.page, eq-eqb (length out) FRAME h.frame) refl

sizes_found : (c : Contents) (out : List ℕ) → build_lengths c out ≡ true → RightSizes c out
sizes_found c out e =
    let first = (and-eq-true_iff (eqb (length c.counts) COUNTS_2) (eqb (length c.page) PAGE_BITS && eqb (length out) FRAME)).0 e in
    let rest = (and-eq-true_iff (eqb (length c.page) PAGE_BITS) (eqb (length out) FRAME)).0 first.1 in
    record {
      counts = eqb-true (length c.counts) COUNTS_2 first.0;
      page = eqb-true (length c.page) PAGE_BITS rest.0;
      frame = eqb-true (length out) FRAME rest.1;
    }

-- what is lent rightly is judged by the contents
lent_on : (c : Contents) (out : List ℕ) → AreLent c out → build_answer c out ≡ contents_answer c
lent_on c out h =
    judged_on (build_lengths c out) (eqb (first_not_bit c.page) (length c.page)) (first_not_bit c.page) (contents_answer c)
    (sizes_fit c out h.sizes) (eq-eqb (first_not_bit c.page) (length c.page) (bits_none c.page h.bits))

-- ---- counts

counts_done : (c : Contents) → AllInRange (fields_in Subframe2) c.counts → counts_answer c.counts ≡ Done
counts_done c h = ap (λ (p : ℕ). done_if (eqb p 0) FIELD_2 p) (in_range_none_out 0 (fields_in Subframe2) c.counts h)

time_done : (c : Contents) → c.toi ≤ 399 → done_if (leb c.toi 399) TIME 0 ≡ Done
time_done c h = ap (λ (t : Bool). done_if t TIME 0) (le-leb c.toi 399 h)

-- ---- done

pub good_done : (c : Contents) (out : List ℕ) → GoodContents c → length out ≡ FRAME → build_answer c out ≡ Done
good_done c out good long =
    lent_on c out
    (record { sizes = record { counts = good.fields.as_many ∙ count_subframe2; page = good.long; frame = long }; bits = good.bits })
    ∙ ap₂ in_turn (time_done c good.time) (ap₂ in_turn (counts_done c good.fields) (page_done c.page good.page_1))

pub done_good : (c : Contents) (out : List ℕ) → build_answer c out ≡ Done → GoodContents c × (length out ≡ FRAME)
done_good c out e =
    let lent = judged_done (build_lengths c out) (eqb (first_not_bit c.page) (length c.page)) (first_not_bit c.page) (contents_answer c) e in
    let sizes = sizes_found c out lent.0 in
    let first = both_done (done_if (leb c.toi 399) TIME 0) (in_turn (counts_answer c.counts) (range_answer c.page)) lent.2 in
    let rest = both_done (counts_answer c.counts) (range_answer c.page) first.1 in
    let out_at = first_out 0 (fields_in Subframe2) c.counts in (
      record {
        time = leb-true c.toi 399 (test_done (leb c.toi 399) TIME 0 first.0);
        fields = none_out 0 (fields_in Subframe2) c.counts (sizes.counts ∙ sym count_subframe2)
            (eqb-true out_at 0 (test_done (eqb out_at 0) FIELD_2 out_at rest.0));
        long = sizes.page;
        bits = none_not_bit c.page (eqb-true (first_not_bit c.page) (length c.page) lent.1);
        page_1 = done_page c.page rest.1;
      },
      sizes.frame,
    )

-- ---- due

sizes_wrong : (c : Contents) (out : List ℕ) → (RightSizes c out → ⊥) → build_lengths c out ≡ false
sizes_wrong c out h = go (build_lengths c out) refl
  where
    go : (t : Bool) → build_lengths c out ≡ t → t ≡ false
    go true e = absurd (h (sizes_found c out e))
    go false e = refl

module _ (c : Contents) (out : List ℕ) where
  page_counts_answer : Answer
  page_counts_answer = in_turn (counts_answer c.counts) (range_answer c.page)

  timed : AreLent c out → c.toi ≤ 399 → build_answer c out ≡ page_counts_answer
  unfolding page_counts_answer
  timed are used = lent_on c out are ∙ ap (λ (a : Answer). in_turn a page_counts_answer) (time_done c used)

  pub build_due_refused : (n p : ℕ) → BuildDue c out n p → (build_answer c out ≡ refused_at n p) × (n ≢ 0)
  unfolding page_counts_answer
  build_due_refused n p (size_due h) = (rw (sizes_wrong c out h) refl, λ e. omega arith)
  build_due_refused n p (page_byte_due q sizes h) = (
    rw (sizes_fit c out sizes, ne_eqb (first_not_bit c.page) (length c.page) (λ e. omega (arith, h.inside, first_byte_when c.page q h)))
        (ap (refused_at NOT_A_BIT) (first_byte_when c.page q h)),
    λ e. omega arith,
  )
  build_due_refused n p (toi_due are h) = (
    lent_on c out are ∙ ap (λ (t : Bool). in_turn (done_if t TIME 0) page_counts_answer) (lt-leb c.toi 399 h),
    λ e. omega arith,
  )
  build_due_refused n p (count_due q are used h) = (
    timed are used
        ∙ ap (λ (v : ℕ). in_turn (done_if (eqb v 0) FIELD_2 v) (range_answer c.page)) (first_out_when 0 (fields_in Subframe2) c.counts q h)
        ∙ ap (λ (t : Bool). in_turn (done_if t FIELD_2 q) (range_answer c.page)) (ne_eqb q 0 (λ e. omega (arith, h.place))),
    λ e. omega arith,
  )
  build_due_refused n p (page_field_due q are used fields h) = (
    timed are used
        ∙ ap (λ (a : Answer). in_turn a (range_answer c.page)) (counts_done c fields)
        ∙ field_out_refused Three c.page q h,
    λ e. omega arith,
  )

  both_fine : counts_answer c.counts ≡ Done → range_answer c.page ≡ Done → page_counts_answer ≡ Done
  unfolding page_counts_answer
  both_fine a b = ap₂ in_turn a b

  pub build_verdict : Verdict (build_answer c out) (BuildDue c out)
  build_verdict = by_sizes (build_lengths c out) refl
    where
      by_page : (are : AreLent c out) → c.toi ≤ 399 → AllInRange (fields_in Subframe2) c.counts → RangeView Three c.page
          → Verdict (build_answer c out) (BuildDue c out)
      by_page are used fields (ranges_fine e) =
          fine (timed are used ∙ both_fine (counts_done c fields) e)
      by_page are used fields (range_out p h) = due FIELD_3 p (page_field_due p are used fields h)

      by_counts : (are : AreLent c out) → c.toi ≤ 399
          → (first_out 0 (fields_in Subframe2) c.counts ≡ 0) ⊎ (first_out 0 (fields_in Subframe2) c.counts ≢ 0)
          → Verdict (build_answer c out) (BuildDue c out)
      by_counts are used (inl e) =
          by_page are used (none_out 0 (fields_in Subframe2) c.counts (are.sizes.counts ∙ sym count_subframe2) e) (range_view Three c.page)
      by_counts are used (inr ne) =
          let p = first_out 0 (fields_in Subframe2) c.counts in
          due FIELD_2 p (count_due p are used (first_out_is 0 (fields_in Subframe2) c.counts p refl ne))

      by_time : AreLent c out → (399 < c.toi) ⊎ (c.toi ≤ 399) → Verdict (build_answer c out) (BuildDue c out)
      by_time are (inl over) = due TIME 0 (toi_due are over)
      by_time are (inr used) = by_counts are used (same_or_not (first_out 0 (fields_in Subframe2) c.counts) 0)

      by_byte : RightSizes c out → (first_not_bit c.page ≡ length c.page) ⊎ (first_not_bit c.page ≢ length c.page)
          → Verdict (build_answer c out) (BuildDue c out)
      by_byte sizes (inl e) = by_time (record { sizes = sizes; bits = none_not_bit c.page e }) (before_or_not 399 c.toi)
      by_byte sizes (inr ne) =
          due NOT_A_BIT (first_not_bit c.page)
          (page_byte_due (first_not_bit c.page) sizes (first_byte_is c.page (omega (arith, not_bit_le c.page, ne))))

      by_sizes : (t : Bool) → build_lengths c out ≡ t → Verdict (build_answer c out) (BuildDue c out)
      by_sizes true e = by_byte (sizes_found c out e) (same_or_not (first_not_bit c.page) (length c.page))
      by_sizes false e = due LENGTH 0 (size_due (λ h. let z : ◌≡◌ {A = Bool} true false = sym (sizes_fit c out h) ∙ e in true≢false z))
