-- THEOREMS: clock terms are exact, they and they alone are taken back, to the same counts, and what is refused.
-- Assumes nothing.
use Rattle.std.specs.Prelude.{◌≡◌, ℕ, ◌^◌, ◌≤◌, Bool, true, false, T, ◌↔◌, ℤ, pos, negsuc, slice_index_or, refl, Float, Option, None, Some, Ok}
use Rattle.std.proofs.Common.{sym, ap, ◌∙◌, subst, true≢false, zero-mul, arith, lit<, lit≤}
use Prim.Native.String.{String}
use Rattle.std.specs.Float.{nan, inf, fin, binary64}
use Rattle.std.specs.Float.Ieee.{fits}
use Rattle.words.specs.Refusal.{FIELD_2, Answer, Done, answer_of, given_by, refused_at}
use Rattle.words.specs.Laws.Turns.{given_answer, given_ok}
use Rattle.fields.specs.Table.{subframe2_rows, at_most, first_bit}
use Rattle.fields.specs.declared.table.Table.TheVariants.{Subframe2}
use Rattle.clock.specs.Clock.{Exactly, term_of, count_in, AF0, AF1, AF2, STEP0, STEP1, STEP2, clock_field, signed_field, clock_answer, Refused6, plus_zero, clock_terms, is_count_of, clock_taken, is_count, the_count, clock_counts}
use Rattle.clock.specs.Laws.Terms.{term_exact, only_exact, range_53, exact_back, term_back, count_exact, only_counts}
use Rattle.clock.specs.Laws.ClockAnswers.{first_bits, signed_fields, narrow_fields, answer_done, only_refused, wrong0, wrong1, wrong2, none_wrong}
use Rattle.clock.specs.declared.clock.Clock.{Clock}
use Rattle.clock.specs.declared.clock.ClockCounts.{ClockCounts}

-- ---- the rows of the table

-- the name of a row of subframe 2's table
abbrev row_name : ℕ → String
row_name row = (slice_index_or subframe2_rows row (at_most 0 0 "")).name

-- The three rows are af0, af1 and af2.
pub clock_names : (row_name AF0 ≡ "af0") × (row_name AF1 ≡ "af1") × (row_name AF2 ≡ "af2")
unfolding subframe2_rows
clock_names = (refl, refl, refl)

-- Their first bits are 471, 497 and 517.
pub clock_places : (first_bit Subframe2 AF0 ≡ 471) × (first_bit Subframe2 AF1 ≡ 497) × (first_bit Subframe2 AF2 ≡ 517)
clock_places = first_bits

-- They are two's complement, 26, 20 and 10 bits wide.
pub clock_fields : (clock_field AF0 ≡ signed_field 26) × (clock_field AF1 ≡ signed_field 20) × (clock_field AF2 ≡ signed_field 10)
clock_fields = signed_fields

-- ---- counts handed out

-- three counts, each in its field's width
pub record InWidths (a b c : ℤ) : Type 0 where
  pub fine0 : is_count_of AF0 a ≡ true
  pub fine1 : is_count_of AF1 b ≡ true
  pub fine2 : is_count_of AF2 c ≡ true

-- the answer to three counts
abbrev counts_answer : ℤ → ℤ → ℤ → Answer
counts_answer a b c = clock_answer (is_count_of AF0 a) (is_count_of AF1 b) (is_count_of AF2 c)

-- Counts in their widths are handed out, and nothing is refused.
pub clock_done : (a b c : ℤ) → InWidths a b c → clock_taken a b c ≡ Ok (clock_terms a b c)
clock_done a b c h =
    ap (λ (x : Answer). given_by x (clock_terms a b c))
    (answer_done (is_count_of AF0 a) (is_count_of AF1 b) (is_count_of AF2 c) h.fine0 h.fine1 h.fine2)

-- what is handed out is the terms of counts in their widths
handed : (a b c : ℤ) (clock : Clock) → clock_taken a b c ≡ Ok clock → InWidths a b c × (clock ≡ clock_terms a b c)
handed a b c clock e =
    let it = given_ok (counts_answer a b c) (clock_terms a b c) clock e in
    let fine = (none_wrong (is_count_of AF0 a) (is_count_of AF1 b) (is_count_of AF2 c)).0 it.0 in
    (record { fine0 = fine.0; fine1 = fine.1; fine2 = fine.2 }, it.1)

-- three floating numbers, exactly af0 times 2^-35, af1 times 2^-48 and af2 times 2^-60, zero as plus zero
pub record AllExact (a b c : ℤ) (clock : Clock) : Type 0 where
  pub exact0 : Exactly STEP0 a clock.af0
  pub exact1 : Exactly STEP1 b clock.af1
  pub exact2 : Exactly STEP2 c clock.af2

-- Each term that is handed out is exactly the count times its power of two.
pub clock_exact : (a b c : ℤ) (clock : Clock) → clock_taken a b c ≡ Ok clock → AllExact a b c clock
clock_exact a b c clock e =
    let it = handed a b c clock e in
    let h = it.0 in
    subst (AllExact a b c) (sym it.1)
    (record {
      exact0 = term_exact STEP0 a (range_53 (clock_field AF0) a narrow_fields.0 h.fine0) (lit≤ tt);
      exact1 = term_exact STEP1 b (range_53 (clock_field AF1) b narrow_fields.1 h.fine1) (lit≤ tt);
      exact2 = term_exact STEP2 c (range_53 (clock_field AF2) c narrow_fields.2 h.fine2) (lit≤ tt);
    })

-- each is a 64-bit floating number
pub record AreF64 (clock : Clock) : Type 0 where
  pub held0 : T (fits binary64 clock.af0)
  pub held1 : T (fits binary64 clock.af1)
  pub held2 : T (fits binary64 clock.af2)

-- No other 64-bit floating numbers are exactly these products: those that are, are what is handed out.
pub only_term : (a b c : ℤ) (clock : Clock) → InWidths a b c → AreF64 clock → AllExact a b c clock → clock_taken a b c ≡ Ok clock
only_term a b c clock h f e =
    let same0 = only_exact STEP0 a clock.af0 (range_53 (clock_field AF0) a narrow_fields.0 h.fine0) (lit≤ tt) f.held0 e.exact0 in
    let same1 = only_exact STEP1 b clock.af1 (range_53 (clock_field AF1) b narrow_fields.1 h.fine1) (lit≤ tt) f.held1 e.exact1 in
    let same2 = only_exact STEP2 c clock.af2 (range_53 (clock_field AF2) c narrow_fields.2 h.fine2) (lit≤ tt) f.held2 e.exact2 in
    clock_done a b c h ∙ (λ i. Ok (sym (λ j. record { af0 = same0 j; af1 = same1 j; af2 = same2 j }) i))

-- The count 0 is handed out as plus zero.
pub zero_plus : (k : ℕ) → k ≤ 1074 → term_of k (pos 0) ≡ plus_zero
unfolding fits
zero_plus k K = sym (only_exact k (pos 0) plus_zero (lit< tt) K tt (refl, zero-mul (2 ^ k)))

-- ---- taken back

-- What is handed out for counts and taken back is the same counts, and nothing is refused.
pub terms_back : (a b c : ℤ) (clock : Clock) → clock_taken a b c ≡ Ok clock
    → clock_counts clock ≡ Ok (record { af0 = a; af1 = b; af2 = c })
terms_back a b c clock e =
    let it = handed a b c clock e in
    let h = it.0 in
    ap clock_counts it.1
    ∙ rw (
      term_back STEP0 (clock_field AF0) a (lit≤ tt) narrow_fields.0 h.fine0,
      term_back STEP1 (clock_field AF1) b (lit≤ tt) narrow_fields.1 h.fine1,
      term_back STEP2 (clock_field AF2) c (lit≤ tt) narrow_fields.2 h.fine2,
    ) refl

-- where there is a count, it is that one
some_count : (r : Option ℤ) → is_count r ≡ true → r ≡ Some (the_count r)
some_count (Some z) e = refl
some_count None e = absurd (true≢false (sym e))

-- Three 64-bit floating numbers that are taken back are the terms of the counts given, which are in their widths; so nothing else is
-- taken: what is not finite, minus zero, a part of a step, too large.
pub only_terms : (clock : Clock) (counts : ClockCounts) → AreF64 clock → clock_counts clock ≡ Ok counts
    → InWidths counts.af0 counts.af1 counts.af2 × (clock_taken counts.af0 counts.af1 counts.af2 ≡ Ok clock)
only_terms clock counts f e =
    let r = count_in STEP0 (clock_field AF0) clock.af0 in
    let s = count_in STEP1 (clock_field AF1) clock.af1 in
    let t = count_in STEP2 (clock_field AF2) clock.af2 in
    let a = the_count r in
    let b = the_count s in
    let c = the_count t in
    let it = given_ok (clock_answer (is_count r) (is_count s) (is_count t)) (record { af0 = a; af1 = b; af2 = c }) counts e in
    let found = (none_wrong (is_count r) (is_count s) (is_count t)).0 it.0 in
    let same0 = only_counts STEP0 (clock_field AF0) a clock.af0 (lit≤ tt) narrow_fields.0 f.held0 (some_count r found.0) in
    let same1 = only_counts STEP1 (clock_field AF1) b clock.af1 (lit≤ tt) narrow_fields.1 f.held1 (some_count s found.1) in
    let same2 = only_counts STEP2 (clock_field AF2) c clock.af2 (lit≤ tt) narrow_fields.2 f.held2 (some_count t found.2) in
    let fine : InWidths a b c = record { fine0 = same0.1; fine1 = same1.1; fine2 = same2.1 } in
    let same : clock ≡ clock_terms a b c = λ i. record { af0 = same0.0 i; af1 = same1.0 i; af2 = same2.0 i } in
    subst (λ (n : ClockCounts). InWidths n.af0 n.af1 n.af2 × (clock_taken n.af0 n.af1 n.af2 ≡ Ok clock)) (sym it.1)
    (fine, clock_done a b c fine ∙ sym (λ i. Ok (same i)))

-- ---- refused

-- Handing out is refused 6 at 471 exactly if af0's count is not in its width; at 497 exactly if af0's is and af1's is not; at 517 exactly if
-- both are and af2's is not.
pub clock_refused : (a b c : ℤ)
    → (Refused6 (answer_of (clock_taken a b c)) 471 ↔ (is_count_of AF0 a ≡ false))
    × (Refused6 (answer_of (clock_taken a b c)) 497 ↔ ((is_count_of AF0 a ≡ true) × (is_count_of AF1 b ≡ false)))
    × (Refused6 (answer_of (clock_taken a b c)) 517 ↔ ((is_count_of AF0 a ≡ true) × (is_count_of AF1 b ≡ true) × (is_count_of AF2 c ≡ false)))
clock_refused a b c =
    let s = is_count_of AF0 a in
    let t = is_count_of AF1 b in
    let u = is_count_of AF2 c in
    rw (given_answer (counts_answer a b c) (clock_terms a b c)) (wrong0 s t u, wrong1 s t u, wrong2 s t u)

-- Nothing is refused exactly if the three counts are in their widths.
pub clock_not_refused : (a b c : ℤ) → (answer_of (clock_taken a b c) ≡ Done) ↔ InWidths a b c
clock_not_refused a b c = (
  λ e.
      let same = given_answer (counts_answer a b c) (clock_terms a b c) in
      let fine = (none_wrong (is_count_of AF0 a) (is_count_of AF1 b) (is_count_of AF2 c)).0 (sym same ∙ e) in
      record { fine0 = fine.0; fine1 = fine.1; fine2 = fine.2 },
  λ h. ap answer_of (clock_done a b c h),
)

-- Where handing out is refused, nothing is given but the refusal.
pub clock_only : (a b c : ℤ) (place : ℕ) → Refused6 (answer_of (clock_taken a b c)) place → clock_taken a b c ≡ refused_at FIELD_2 place
clock_only a b c place h = only_refused (clock_taken a b c) place h

-- a floating number is the product of a count in a row's width with 2^-k
pub record IsTerm (k row : ℕ) (x : Float) : Type 0 where
  pub count : ℤ
  pub fine : is_count_of row count ≡ true
  pub exact : Exactly k count x

-- What is not finite is none.
pub not_finite_none : (k row : ℕ) → (IsTerm k row nan → ⊥) × ((s : Bool) → IsTerm k row (inf s) → ⊥)
not_finite_none k row = (λ h. h.exact, λ s h. h.exact)

-- Minus zero is none.
pub minus_zero_none : (k row : ℕ) → IsTerm k row (fin true 0 (pos 0)) → ⊥
minus_zero_none k row h = go h.count h.exact
  where
    go : (z : ℤ) → Exactly k z (fin true 0 (pos 0)) → ⊥
    go (pos n) e = true≢false e.0
    go (negsuc n) e = omega (arith, e.1, zero-mul (2 ^ k))

-- the test says it
is_term : (k row : ℕ) (x : Float) → (is_count (count_in k (clock_field row) x) ≡ true) ↔ IsTerm k row x
is_term k row x = (so (count_in k (clock_field row) x) refl, λ h. ap is_count (exact_back k (clock_field row) h.count x h.fine h.exact))
  where
    so : (r : Option ℤ) → count_in k (clock_field row) x ≡ r → is_count r ≡ true → IsTerm k row x
    so (Some z) e t = let found = count_exact k (clock_field row) z x e in record { count = z; fine = found.1; exact = found.0 }
    so None e t = absurd (true≢false (sym t))

no_term : (k row : ℕ) (x : Float) → (is_count (count_in k (clock_field row) x) ≡ false) ↔ (IsTerm k row x → ⊥)
no_term k row x = (λ e h. true≢false (sym ((is_term k row x).1 h) ∙ e), λ none. so (is_count (count_in k (clock_field row) x)) refl none)
  where
    so : (b : Bool) → is_count (count_in k (clock_field row) x) ≡ b → (IsTerm k row x → ⊥) → b ≡ false
    so true e none = absurd (none ((is_term k row x).0 e))
    so false e none = refl

-- the answer to three terms
abbrev terms_answer : Clock → Answer
terms_answer clock =
    clock_answer (is_count (count_in STEP0 (clock_field AF0) clock.af0)) (is_count (count_in STEP1 (clock_field AF1) clock.af1))
    (is_count (count_in STEP2 (clock_field AF2) clock.af2))

-- it is what taking back answers
answer_back : (clock : Clock) → answer_of (clock_counts clock) ≡ terms_answer clock
answer_back clock =
    given_answer (terms_answer clock)
    (record {
      af0 = the_count (count_in STEP0 (clock_field AF0) clock.af0);
      af1 = the_count (count_in STEP1 (clock_field AF1) clock.af1);
      af2 = the_count (count_in STEP2 (clock_field AF2) clock.af2);
    })

-- Taking back is refused 6 at 471 exactly if af0 is no term of its field; at 497 exactly if af0 is one and af1 is none; at 517 exactly if
-- both are and af2 is none.
pub terms_refused : (clock : Clock)
    → (Refused6 (answer_of (clock_counts clock)) 471 ↔ (IsTerm STEP0 AF0 clock.af0 → ⊥))
    × (Refused6 (answer_of (clock_counts clock)) 497 ↔ (IsTerm STEP0 AF0 clock.af0 × (IsTerm STEP1 AF1 clock.af1 → ⊥)))
    × (Refused6 (answer_of (clock_counts clock)) 517
    ↔ (IsTerm STEP0 AF0 clock.af0 × IsTerm STEP1 AF1 clock.af1 × (IsTerm STEP2 AF2 clock.af2 → ⊥)))
terms_refused clock =
    let r = count_in STEP0 (clock_field AF0) clock.af0 in
    let s = count_in STEP1 (clock_field AF1) clock.af1 in
    let t = count_in STEP2 (clock_field AF2) clock.af2 in
    let first = is_term STEP0 AF0 clock.af0 in
    let second = is_term STEP1 AF1 clock.af1 in
    let not_first = no_term STEP0 AF0 clock.af0 in
    let not_second = no_term STEP1 AF1 clock.af1 in
    let not_third = no_term STEP2 AF2 clock.af2 in
    let one = wrong0 (is_count r) (is_count s) (is_count t) in
    let two = wrong1 (is_count r) (is_count s) (is_count t) in
    let three = wrong2 (is_count r) (is_count s) (is_count t) in
    rw (answer_back clock) (
      (λ h. not_first.0 (one.0 h), λ h. one.1 (not_first.1 h)),
      (λ h. let e = two.0 h in (first.0 e.0, not_second.0 e.1), λ h. two.1 (first.1 h.0, not_second.1 h.1)),
      (
        λ h. let e = three.0 h in (first.0 e.0, second.0 e.1, not_third.0 e.2),
        λ h. three.1 (first.1 h.0, second.1 h.1, not_third.1 h.2),
      ),
    )

-- Nothing is refused exactly if the three are terms of their fields.
pub terms_not_refused : (clock : Clock)
    → (answer_of (clock_counts clock) ≡ Done) ↔ (IsTerm STEP0 AF0 clock.af0 × IsTerm STEP1 AF1 clock.af1 × IsTerm STEP2 AF2 clock.af2)
terms_not_refused clock =
    let r = count_in STEP0 (clock_field AF0) clock.af0 in
    let s = count_in STEP1 (clock_field AF1) clock.af1 in
    let t = count_in STEP2 (clock_field AF2) clock.af2 in
    let first = is_term STEP0 AF0 clock.af0 in
    let second = is_term STEP1 AF1 clock.af1 in
    let third = is_term STEP2 AF2 clock.af2 in
    let done = none_wrong (is_count r) (is_count s) (is_count t) in
    rw (answer_back clock) (
      λ e. let fine = done.0 e in (first.0 fine.0, second.0 fine.1, third.0 fine.2),
      λ h. done.1 (first.1 h.0, second.1 h.1, third.1 h.2),
    )

-- Where taking back is refused, nothing is given but the refusal.
pub terms_only : (clock : Clock) (place : ℕ) → Refused6 (answer_of (clock_counts clock)) place → clock_counts clock ≡ refused_at FIELD_2 place
terms_only clock place h = only_refused (clock_counts clock) place h
