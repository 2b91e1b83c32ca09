-- The rows of the clock terms in the table of subframe 2, and what three tests of them answer.
-- Assumes nothing.
use Rattle.std.specs.Prelude.{◌≡◌, ℕ, ◌^◌, ◌<◌, Bool, true, false, ◌↔◌, refl, Result, Ok, Err}
use Rattle.std.proofs.Common.{sym, ap, ap₂, true≢false, arith, lit<}
use Rattle.words.specs.Refusal.{FIELD_2, Answer, Done, answer_of, refused_at, number_of, place_of}
use Rattle.words.specs.declared.refusal.Refusal.{Refusal}
use Rattle.fields.specs.Table.{subframe2_rows, fields_in, bit_count, first_bit}
use Rattle.fields.specs.declared.table.Table.TheVariants.{Subframe2}
use Rattle.clock.specs.Clock.{AF0, AF1, AF2, clock_field, signed_field, clock_answer, Refused6}

-- the rows' first bits
pub first_bits : (first_bit Subframe2 AF0 ≡ 471) × (first_bit Subframe2 AF1 ≡ 497) × (first_bit Subframe2 AF2 ≡ 517)
unfolding fields_in subframe2_rows bit_count
first_bits = (refl, refl, refl)

-- their fields
pub signed_fields : (clock_field AF0 ≡ signed_field 26) × (clock_field AF1 ≡ signed_field 20) × (clock_field AF2 ≡ signed_field 10)
unfolding fields_in subframe2_rows
signed_fields = (refl, refl, refl)

-- which are not too wide for a floating number
pub narrow_fields : ((clock_field AF0).most < 2 ^ 52) × ((clock_field AF1).most < 2 ^ 52) × ((clock_field AF2).most < 2 ^ 52)
unfolding fields_in subframe2_rows
narrow_fields = (lit< tt, lit< tt, lit< tt)

-- ---- three tests

pub answer0 : (s t u : Bool) → s ≡ false → clock_answer s t u ≡ refused_at FIELD_2 471
answer0 true t u e = absurd (true≢false e)
answer0 false t u e = ap (refused_at FIELD_2) first_bits.0

pub answer1 : (s t u : Bool) → s ≡ true → t ≡ false → clock_answer s t u ≡ refused_at FIELD_2 497
answer1 false t u e f = absurd (true≢false (sym e))
answer1 true true u e f = absurd (true≢false f)
answer1 true false u e f = ap (refused_at FIELD_2) first_bits.1

pub answer2 : (s t u : Bool) → s ≡ true → t ≡ true → u ≡ false → clock_answer s t u ≡ refused_at FIELD_2 517
answer2 false t u e f g = absurd (true≢false (sym e))
answer2 true false u e f g = absurd (true≢false (sym f))
answer2 true true true e f g = absurd (true≢false g)
answer2 true true false e f g = ap (refused_at FIELD_2) first_bits.2

pub answer_done : (s t u : Bool) → s ≡ true → t ≡ true → u ≡ true → clock_answer s t u ≡ Done
answer_done s t u e f g = rw (e, f, g) refl

-- ---- back from the answer

refused_so : {answer : Answer} {place : ℕ} → answer ≡ refused_at FIELD_2 place → Refused6 answer place
refused_so e = record { number_is = ap number_of e; place_is = ap place_of e }

-- what has the answer of a refusal is that refusal
pub only_refused : {A : Type 0} (given : Result A Refusal) (place : ℕ) → Refused6 (answer_of given) place → given ≡ refused_at FIELD_2 place
only_refused (Ok x) place h = absurd (omega (arith, h.number_is))
only_refused (Err r) place h = ap₂ refused_at h.number_is h.place_is

-- the first is wrong
pub wrong0 : (s t u : Bool) → Refused6 (clock_answer s t u) 471 ↔ (s ≡ false)
wrong0 s t u = (so s t u, λ e. refused_so (answer0 s t u e))
  where
    so : (s t u : Bool) → Refused6 (clock_answer s t u) 471 → s ≡ false
    so false t u h = refl
    so true false u h = absurd (omega (arith, h.place_is, first_bits.1))
    so true true false h = absurd (omega (arith, h.place_is, first_bits.2))
    so true true true h = absurd (omega (arith, h.number_is))

-- the second is the first that is wrong
pub wrong1 : (s t u : Bool) → Refused6 (clock_answer s t u) 497 ↔ ((s ≡ true) × (t ≡ false))
wrong1 s t u = (so s t u, λ e. refused_so (answer1 s t u e.0 e.1))
  where
    so : (s t u : Bool) → Refused6 (clock_answer s t u) 497 → (s ≡ true) × (t ≡ false)
    so false t u h = absurd (omega (arith, h.place_is, first_bits.0))
    so true false u h = (refl, refl)
    so true true false h = absurd (omega (arith, h.place_is, first_bits.2))
    so true true true h = absurd (omega (arith, h.number_is))

-- the third is the first that is wrong
pub wrong2 : (s t u : Bool) → Refused6 (clock_answer s t u) 517 ↔ ((s ≡ true) × (t ≡ true) × (u ≡ false))
wrong2 s t u = (so s t u, λ e. refused_so (answer2 s t u e.0 e.1 e.2))
  where
    so : (s t u : Bool) → Refused6 (clock_answer s t u) 517 → (s ≡ true) × (t ≡ true) × (u ≡ false)
    so false t u h = absurd (omega (arith, h.place_is, first_bits.0))
    so true false u h = absurd (omega (arith, h.place_is, first_bits.1))
    so true true false h = (refl, refl, refl)
    so true true true h = absurd (omega (arith, h.number_is))

-- none is wrong
pub none_wrong : (s t u : Bool) → (clock_answer s t u ≡ Done) ↔ ((s ≡ true) × (t ≡ true) × (u ≡ true))
none_wrong s t u = (λ e. so s t u (ap number_of e), λ e. answer_done s t u e.0 e.1 e.2)
  where
    so : (s t u : Bool) → number_of (clock_answer s t u) ≡ 0 → (s ≡ true) × (t ≡ true) × (u ≡ true)
    so false t u h = absurd (omega (arith, h))
    so true false u h = absurd (omega (arith, h))
    so true true false h = absurd (omega (arith, h))
    so true true true h = (refl, refl, refl)
