-- THEOREMS: a refusal leaves every lent byte as it was. An answer refuses where document 01's table has a number for it.
-- Assumes nothing.
use Rattle.std.specs.Prelude.{◌≡◌, refl, Bool, true, false, cond, ◌&&◌, List, ℕ, eqb, leb, length, Err, Ok}
use Rattle.words.specs.Refusal.{LENGTH, TIME, refused_at, done_if, judged, left_if, left_by, number_of, Answer, Done}
use Rattle.words.specs.Time.{time_word, time_answer, time_bytes}

-- the answer is a refusal
abbrev pub Refuses : Answer → Type 0
Refuses a = number_of a ≡ 0 → ⊥

-- Where lent bytes are judged and refused, they are as they were.
pub refused_stay : (lengths bits : Bool) (first_not : ℕ) (new l : List ℕ) → Refuses (judged lengths bits first_not Done)
    → left_if (lengths && bits) new l ≡ l
refused_stay true true first_not new l h = absurd (h refl)
refused_stay true false first_not new l h = refl
refused_stay false bits first_not new l h = refl

-- Where bytes are left by an answer that refuses, they are as they were.
pub refused_by_answer : (a : Answer) (new l : List ℕ) → Refuses a → left_by a new l ≡ l
refused_by_answer (Ok _) new l h = absurd (h refl)
refused_by_answer (Err r) new l h = refl

-- Where writing a time is refused, the bytes are as they were.
pub write_time_unchanged : (l : List ℕ) (toi : ℕ) → Refuses (time_answer l toi) → time_bytes l toi ≡ l
write_time_unchanged l toi h = go (eqb (length l) 52) (leb toi 399) h
  where
    go : (long used : Bool) → Refuses (cond long (done_if used TIME 0) (refused_at LENGTH 0)) → left_if (long && used) (time_word toi) l ≡ l
    go true true h = absurd (h refl)
    go true false h = refl
    go false used h = refl
