-- Three that are given in turn, one for each row: what is made of them is given, or the first refusal.
-- Assumes nothing.
use Rattle.std.proofs.Common.{◌≡◌, ℕ, Bool, ℤ, Result, Ok, Err, refl, sym, ap, ap₂, ◌∙◌}
use Rattle.std.specs.Prelude.{Float, Option}
use Rattle.words.specs.Refusal.{FIELD_2, Answer, answer_of, given_by, done_if, in_turn}
use Rattle.words.specs.declared.refusal.Refusal.{Refusal}
use Rattle.words.specs.Laws.Turns.{given_answer, given_ok}
use Rattle.fields.specs.Counts.{in_range}
use Rattle.fields.specs.declared.table.Field.{Field}
use Rattle.clock.specs.Clock.{AF0, AF1, AF2, clock_field, signed_field, term_of, count_in, is_count, the_count, clock_answer, clock_taken, clock_terms, clock_counts}
use Rattle.clock.specs.Laws.ClockAnswers.{first_bits, signed_fields}
use Rattle.clock.specs.declared.clock.Clock.{Clock}
use Rattle.clock.specs.declared.clock.ClockCounts.{ClockCounts}

-- ---- any three

-- what is refused has that refusal for its answer
given_err : {A : Type 0} (a : Answer) (x : A) (r : Refusal) → given_by a x ≡ Err r → a ≡ Err r
given_err a x r e = sym (given_answer a x) ∙ ap answer_of e

-- three answers in turn
abbrev all_three : Answer → Answer → Answer → Answer
all_three s t u = in_turn s (in_turn t u)

first_err : {A D : Type 0} (s t u : Answer) (a : A) (d : D) (r : Refusal) → given_by s a ≡ Err r → given_by (all_three s t u) d ≡ Err r
first_err s t u a d r e = rw (given_err s a r e) refl

second_err : {A B D : Type 0} (s t u : Answer) (a x : A) (b : B) (d : D) (r : Refusal) → given_by s a ≡ Ok x → given_by t b ≡ Err r
    → given_by (all_three s t u) d ≡ Err r
second_err s t u a x b d r e f = rw ((given_ok s a x e).0, given_err t b r f) refl

third_err : {A B C D : Type 0} (s t u : Answer) (a x : A) (b y : B) (c : C) (d : D) (r : Refusal) → given_by s a ≡ Ok x
    → given_by t b ≡ Ok y → given_by u c ≡ Err r → given_by (all_three s t u) d ≡ Err r
third_err s t u a x b y c d r e f g = rw ((given_ok s a x e).0, (given_ok t b y f).0, given_err u c r g) refl

all_ok : {A B C D : Type 0} (make : A → B → C → D) (s t u : Answer) (a x : A) (b y : B) (c z : C) → given_by s a ≡ Ok x
    → given_by t b ≡ Ok y → given_by u c ≡ Ok z → given_by (all_three s t u) (make a b c) ≡ Ok (make x y z)
all_ok make s t u a x b y c z e f g =
    let one = given_ok s a x e in
    let two = given_ok t b y f in
    let three = given_ok u c z g in
    rw (one.0, two.0, three.0, one.1, two.1, three.1) refl

-- ---- the rows, by the widths and first bits that the code has

-- the answer of a test of each row
abbrev coded : Bool → Bool → Bool → Answer
coded s t u = all_three (done_if s FIELD_2 471) (done_if t FIELD_2 497) (done_if u FIELD_2 517)

rows_are : (f g h : Field → Bool)
    → clock_answer (f (clock_field AF0)) (g (clock_field AF1)) (h (clock_field AF2))
    ≡ coded (f (signed_field 26)) (g (signed_field 20)) (h (signed_field 10))
rows_are f g h =
    ap₂ (λ (s r : Answer). in_turn s r) (ap₂ (λ (x : Field) (p : ℕ). done_if (f x) FIELD_2 p) signed_fields.0 first_bits.0)
    (ap₂ (λ (t u : Answer). in_turn t u) (ap₂ (λ (x : Field) (p : ℕ). done_if (g x) FIELD_2 p) signed_fields.1 first_bits.1)
    (ap₂ (λ (x : Field) (p : ℕ). done_if (h x) FIELD_2 p) signed_fields.2 first_bits.2))

-- the record of three terms
abbrev the_clock : Float → Float → Float → Clock
the_clock x y z = record { af0 = x; af1 = y; af2 = z }

-- and of three counts
abbrev the_counts : ℤ → ℤ → ℤ → ClockCounts
the_counts a b c = record { af0 = a; af1 = b; af2 = c }

-- ---- handing out

-- what a call gave, said of its argument itself and not of that argument written as bits and read back
pub found : {A B : Type 0} (gives : A → B) {x y : A} {given r : B} → x ≡ y → given ≡ gives x → given ≡ r → gives y ≡ r
found gives e g h = ap gives (sym e) ∙ sym g ∙ h

-- what handing out a count gives, by a term of this width, first bit and step
abbrev pub handed : ℕ → ℕ → ℕ → ℤ → Result Float Refusal
handed w p k z = given_by (done_if (in_range (signed_field w) z) FIELD_2 p) (term_of k z)

module _ (a b c : ℤ) where
  abbrev fits0 : Answer
  fits0 = done_if (in_range (signed_field 26) a) FIELD_2 471

  abbrev fits1 : Answer
  fits1 = done_if (in_range (signed_field 20) b) FIELD_2 497

  abbrev fits2 : Answer
  fits2 = done_if (in_range (signed_field 10) c) FIELD_2 517

  taken_is : clock_taken a b c ≡ given_by (all_three fits0 fits1 fits2) (clock_terms a b c)
  taken_is =
      ap (λ (s : Answer). given_by s (clock_terms a b c))
      (rows_are (λ (f : Field). in_range f a) (λ (f : Field). in_range f b) (λ (f : Field). in_range f c))

  pub out0 : {r : Refusal} → handed 26 471 35 a ≡ Err r → clock_taken a b c ≡ Err r
  out0 {r} e = taken_is ∙ first_err fits0 fits1 fits2 (term_of 35 a) (clock_terms a b c) r e

  pub out1 : {x : Float} {r : Refusal} → handed 26 471 35 a ≡ Ok x → handed 20 497 48 b ≡ Err r → clock_taken a b c ≡ Err r
  out1 {x} {r} e f = taken_is ∙ second_err fits0 fits1 fits2 (term_of 35 a) x (term_of 48 b) (clock_terms a b c) r e f

  pub out2 : {x y : Float} {r : Refusal} → handed 26 471 35 a ≡ Ok x → handed 20 497 48 b ≡ Ok y → handed 10 517 60 c ≡ Err r
      → clock_taken a b c ≡ Err r
  out2 {x} {y} {r} e f g =
      taken_is ∙ third_err fits0 fits1 fits2 (term_of 35 a) x (term_of 48 b) y (term_of 60 c) (clock_terms a b c) r e f g

  pub all_out : {x y z : Float} → handed 26 471 35 a ≡ Ok x → handed 20 497 48 b ≡ Ok y → handed 10 517 60 c ≡ Ok z
      → clock_taken a b c ≡ Ok (record { af0 = x; af1 = y; af2 = z })
  all_out {x} {y} {z} e f g =
      taken_is
      ∙ all_ok (λ (p q r : Float). the_clock p q r) fits0 fits1 fits2 (term_of 35 a) x (term_of 48 b) y (term_of 60 c) z e f g

-- ---- taking back

-- what taking a term back gives, by a term of this width, first bit and step
abbrev pub back : ℕ → ℕ → ℕ → Float → Result ℤ Refusal
back w p k x = given_by (done_if (is_count (count_in k (signed_field w) x)) FIELD_2 p) (the_count (count_in k (signed_field w) x))

module _ (clock : Clock) where
  abbrev count0 : Option ℤ
  count0 = count_in 35 (signed_field 26) clock.af0

  abbrev count1 : Option ℤ
  count1 = count_in 48 (signed_field 20) clock.af1

  abbrev count2 : Option ℤ
  count2 = count_in 60 (signed_field 10) clock.af2

  abbrev is0 : Answer
  is0 = done_if (is_count count0) FIELD_2 471

  abbrev is1 : Answer
  is1 = done_if (is_count count1) FIELD_2 497

  abbrev is2 : Answer
  is2 = done_if (is_count count2) FIELD_2 517

  -- their counts
  abbrev three : ClockCounts
  three = the_counts (the_count count0) (the_count count1) (the_count count2)

  counts_are : clock_counts clock ≡ given_by (all_three is0 is1 is2) three
  counts_are =
      ap₂ (λ (s : Answer) (n : ClockCounts). given_by s n)
      (rows_are (λ (f : Field). is_count (count_in 35 f clock.af0)) (λ (f : Field). is_count (count_in 48 f clock.af1))
      (λ (f : Field). is_count (count_in 60 f clock.af2)))
      (λ i. record {
        af0 = the_count (count_in 35 (signed_fields.0 i) clock.af0);
        af1 = the_count (count_in 48 (signed_fields.1 i) clock.af1);
        af2 = the_count (count_in 60 (signed_fields.2 i) clock.af2);
      })

  pub back0 : {r : Refusal} → back 26 471 35 clock.af0 ≡ Err r → clock_counts clock ≡ Err r
  back0 {r} e = counts_are ∙ first_err is0 is1 is2 (the_count count0) three r e

  pub back1 : {a : ℤ} {r : Refusal} → back 26 471 35 clock.af0 ≡ Ok a → back 20 497 48 clock.af1 ≡ Err r → clock_counts clock ≡ Err r
  back1 {a} {r} e f = counts_are ∙ second_err is0 is1 is2 (the_count count0) a (the_count count1) three r e f

  pub back2 : {a b : ℤ} {r : Refusal} → back 26 471 35 clock.af0 ≡ Ok a → back 20 497 48 clock.af1 ≡ Ok b
      → back 10 517 60 clock.af2 ≡ Err r → clock_counts clock ≡ Err r
  back2 {a} {b} {r} e f g = counts_are ∙ third_err is0 is1 is2 (the_count count0) a (the_count count1) b (the_count count2) three r e f g

  pub all_back : {a b c : ℤ} → back 26 471 35 clock.af0 ≡ Ok a → back 20 497 48 clock.af1 ≡ Ok b → back 10 517 60 clock.af2 ≡ Ok c
      → clock_counts clock ≡ Ok (record { af0 = a; af1 = b; af2 = c })
  all_back {a} {b} {c} e f g =
      counts_are
      ∙ all_ok (λ (p q r : ℤ). the_counts p q r) is0 is1 is2 (the_count count0) a (the_count count1) b (the_count count2) c e f g
