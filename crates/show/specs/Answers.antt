-- What an answer is: done, or the refusal with a number at a place.
-- Assumes nothing.
use Rattle.std.specs.Prelude.{Bool, true, false, ◌&&◌, ℕ, eqb, Result, Ok, Err}
use Rattle.words.specs.declared.refusal.Refusal.{Refusal}

abbrev pub is_done : {A : Type 0} → Result A Refusal → Bool
is_done (Ok x) = true
is_done (Err r) = false

abbrev pub is_refused : {A : Type 0} → Result A Refusal → ℕ → ℕ → Bool
is_refused (Ok x) number place = false
is_refused (Err r) number place = eqb r.number number && eqb r.place place
