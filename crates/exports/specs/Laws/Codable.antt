-- Answers that a call's number reports: a refusal has a number that is not 0, and its place fits in 32 bits.
-- Assumes nothing.
use Rattle.std.specs.Prelude.{◌≡◌, refl, Bool, true, false, ℕ, ◌/◌, ◌<◌, Err, Ok}
use Rattle.std.proofs.Common.{sym, ◌∙◌, arith}
use Rattle.words.specs.Refusal.{done_if, in_turn, judged, place_of, Answer, Done}
use Rattle.words.specs.Laws.Turns.{Numbered, test_numbered}
use Rattle.exports.specs.Code.{HALF, refusal_code, code_of, Reports}

pub record Codable (a : Answer) : Type 0 where
  pub numbered : Numbered a
  pub low : place_of a < HALF

pub done_codable : Codable Done
done_codable = record { numbered = λ e. refl; low = omega arith }

pub test_codable : (t : Bool) (n p : ℕ) → (n ≡ 0 → ⊥) → (t ≡ false → p < HALF) → Codable (done_if t n p)
test_codable true n p some fits = done_codable
test_codable false n p some fits = record { numbered = test_numbered false n p some; low = fits refl }

pub turn_codable : (a b : Answer) → Codable a → Codable b → Codable (in_turn a b)
turn_codable (Ok _) b ha hb = hb
turn_codable (Err r) b ha hb = ha

-- what is judged later only counts where the test before it holds
pub tested_codable : (t : Bool) (n p : ℕ) (b : Answer) → (n ≡ 0 → ⊥) → p < HALF → (t ≡ true → Codable b)
    → Codable (in_turn (done_if t n p) b)
tested_codable true n p b some fits hb = hb refl
tested_codable false n p b some fits hb = record { numbered = test_numbered false n p some; low = fits }

pub judged_codable : (lengths bits : Bool) (first : ℕ) (a : Answer) → (lengths ≡ true → first < HALF) → Codable a
    → Codable (judged lengths bits first a)
judged_codable true true first a fits ha = ha
judged_codable true false first a fits ha = record { numbered = λ e. absurd (omega arith); low = fits refl }
judged_codable false bits first a fits ha = record { numbered = λ e. absurd (omega arith); low = omega arith }

-- so what is returned reports such an answer, where what is said fits in 32 bits
pub code_reports : (a : Answer) (said : ℕ) → Codable a → (a ≡ Done → said < HALF) → Reports (code_of a said) a said
code_reports (Ok _) said h fits =
    let small : said < HALF = fits refl in
    record { number = omega arith; none = λ e. refl; low = omega arith }
code_reports (Err r) said h fits =
    let high : refusal_code r.number r.place / HALF ≡ r.number = omega (arith, h.low) in
    record { number = high; none = λ e. h.numbered (sym high ∙ e); low = omega (arith, h.low) }
