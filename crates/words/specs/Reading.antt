-- THEOREMS: what reading a time gives, for any bytes, and what it bears.
-- Assumes nothing.
use Rattle.std.specs.Prelude.{◌≡◌, Result, List, ◌↔◌, ℕ, ◌≤◌, ◌<◌, length}
use Rattle.std.proofs.Common.{sym, ap, ◌∙◌, arith}
use Rattle.words.specs.Bits.{IsBits, first_not_bit}
use Rattle.words.specs.Sums.{sums, weight}
use Rattle.words.specs.Refusal.{LENGTH, NOT_A_BIT, TIME, refused_at, answer_of, place_of}
use Rattle.words.specs.declared.refusal.Refusal.{Refusal}
use Rattle.words.specs.Time.{IsTime, time_word, time_is, time_read, number_read, toi_read, corrected_read}
use Rattle.words.specs.declared.time.Time.{Time}
use Rattle.words.specs.Laws.Digits.{bits_none}
use Rattle.words.specs.Laws.Judged.{Judged, wrong_length, wrong_byte, time_missing, a_time, judged, hit}
use Rattle.words.specs.Laws.Sums.{length_sums, sums_are, turned_differ}
use Rattle.words.specs.Laws.Words.{word_length, word_are}

-- Reading gives a time and a number of places exactly if the bytes are 52 bits, and that is the time from 0 to 399 whose
-- word differs from them in that many places, at most nine.
pub read_exactly : (s : List ℕ) (toi places : ℕ)
    → (time_read s ≡ time_is toi places) ↔ ((length s ≡ 52) × IsBits s × IsTime s toi places)
read_exactly s toi places = (λ e. so (judged s) e, λ h. hit s toi places h.0 (bits_none s h.1) h.2)
  where
    so : Judged s → time_read s ≡ time_is toi places → (length s ≡ 52) × IsBits s × IsTime s toi places
    so (wrong_length l r) e = absurd (omega (arith, ap number_read (sym r ∙ e)))
    so (wrong_byte l b r) e = absurd (omega (arith, ap number_read (sym r ∙ e)))
    so (time_missing l b far r) e = absurd (omega (arith, ap number_read (sym r ∙ e)))
    so (a_time l b u d t r) e =
        let same_toi : u ≡ toi = ap toi_read (sym r ∙ e) in
        let same_places : d ≡ places = ap corrected_read (sym r ∙ e) in
        (l, b, rw same_toi at (rw same_places at t))

-- reading is refused with this number, at this place, and gives nothing else
abbrev pub TimeRefused : List ℕ → ℕ → ℕ → Type 0
TimeRefused s number place = time_read s ≡ refused_at number place

-- two numbers of the table that one answer would have
clash : (s : List ℕ) (r : Result Time Refusal) (number place : ℕ) → time_read s ≡ r → TimeRefused s number place → number_read r ≡ number
clash s r number place e h = sym (ap number_read e) ∙ ap number_read h

-- It is refused 1 at 0 exactly if there are not 52 bytes.
pub refused_length : (s : List ℕ) → TimeRefused s LENGTH 0 ↔ (length s ≡ 52 → ⊥)
refused_length s = (λ h. so (judged s) h, λ h. back (judged s) h)
  where
    so : Judged s → TimeRefused s LENGTH 0 → length s ≡ 52 → ⊥
    so (wrong_length l r) n = l
    so (wrong_byte l b r) n = absurd (omega (arith, clash s (refused_at NOT_A_BIT (first_not_bit s)) LENGTH 0 r n))
    so (time_missing l b far r) n = absurd (omega (arith, clash s (refused_at TIME 0) LENGTH 0 r n))
    so (a_time l b u d t r) n = absurd (omega (arith, clash s (time_is u d) LENGTH 0 r n))

    back : Judged s → (length s ≡ 52 → ⊥) → TimeRefused s LENGTH 0
    back (wrong_length l r) h = r
    back (wrong_byte l b r) h = absurd (h l)
    back (time_missing l b far r) h = absurd (h l)
    back (a_time l b u d t r) h = absurd (h l)

-- It is refused 2 at p exactly if there are 52 bytes and p is the index of the first that is neither 0 nor 1.
pub refused_byte : (s : List ℕ) (p : ℕ)
    → TimeRefused s NOT_A_BIT p ↔ ((length s ≡ 52) × (first_not_bit s ≡ p) × (p < 52))
refused_byte s p = (λ h. so (judged s) h, λ h. back (judged s) h)
  where
    so : Judged s → TimeRefused s NOT_A_BIT p → (length s ≡ 52) × (first_not_bit s ≡ p) × (p < 52)
    so (wrong_length l r) h = absurd (omega (arith, clash s (refused_at LENGTH 0) NOT_A_BIT p r h))
    so (wrong_byte l b r) h =
        let same : first_not_bit s ≡ p = ap (λ (x : Result Time Refusal). place_of (answer_of x)) (sym r ∙ h) in (l, same, omega arith)
    so (time_missing l b far r) h = absurd (omega (arith, clash s (refused_at TIME 0) NOT_A_BIT p r h))
    so (a_time l b u d t r) h = absurd (omega (arith, clash s (time_is u d) NOT_A_BIT p r h))

    back : Judged s → (length s ≡ 52) × (first_not_bit s ≡ p) × (p < 52) → TimeRefused s NOT_A_BIT p
    back (wrong_length l r) h = absurd (l h.0)
    back (wrong_byte l b r) h = r ∙ ap (refused_at NOT_A_BIT) h.1
    back (time_missing l b far r) h = absurd (omega (arith, bits_none s b, h.1, h.2))
    back (a_time l b u d t r) h = absurd (omega (arith, bits_none s b, h.1, h.2))

-- It is refused 3 at 0 exactly if the bytes are 52 bits and no time from 0 to 399 is within nine.
pub refused_time : (s : List ℕ)
    → TimeRefused s TIME 0 ↔ ((length s ≡ 52) × IsBits s × ((toi places : ℕ) → IsTime s toi places → ⊥))
refused_time s = (λ h. so (judged s) h, λ h. back (judged s) h)
  where
    so : Judged s → TimeRefused s TIME 0
        → (length s ≡ 52) × IsBits s × ((toi places : ℕ) → IsTime s toi places → ⊥)
    so (wrong_length l r) n = absurd (omega (arith, clash s (refused_at LENGTH 0) TIME 0 r n))
    so (wrong_byte l b r) n = absurd (omega (arith, clash s (refused_at NOT_A_BIT (first_not_bit s)) TIME 0 r n))
    so (time_missing l b far r) n = (l, b, far)
    so (a_time l b u d t r) n = absurd (omega (arith, clash s (time_is u d) TIME 0 r n))

    back : Judged s → (length s ≡ 52) × IsBits s × ((toi places : ℕ) → IsTime s toi places → ⊥) → TimeRefused s TIME 0
    back (wrong_length l r) h = absurd (l h.0)
    back (wrong_byte l b r) h = absurd (omega (arith, bits_none s h.1))
    back (time_missing l b far r) h = r
    back (a_time l b u d t r) h = absurd (h.2 u d t)

-- Turn at most nine symbols of the word of a time from 0 to 399: read, it is the time sent, with the number turned.
pub time_borne : (toi : ℕ) (turned : List ℕ) → toi ≤ 399 → length turned ≡ 52 → IsBits turned → weight turned ≤ 9
    → time_read (sums (time_word toi) turned) ≡ time_is toi (weight turned)
time_borne toi turned h l b few =
    let same : length (time_word toi) ≡ length turned = word_length toi ∙ sym l in
    (read_exactly (sums (time_word toi) turned) toi (weight turned)).1 (
      length_sums (time_word toi) turned same ∙ word_length toi,
      sums_are (time_word toi) turned,
      record {
        used = h;
        counted = turned_differ (time_word toi) turned same (word_are toi) b;
        near = few;
      },
    )
