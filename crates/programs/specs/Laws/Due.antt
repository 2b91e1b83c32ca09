-- Refusals; and of characters that must be symbols, what is refused is what is due.
-- Assumes nothing.
use Rattle.std.specs.Prelude.{◌≡◌, refl, Bool, true, false, cond, List, [], ◌∷◌, ◌⊎◌, ◌≢◌, ℕ, zero, suc, ◌<◌, eqb, length, get_or, Err, Ok}
use Rattle.std.proofs.Common.{sym, ap, ap₂, ◌∙◌, inl, inr, arith, eq-eqb, ne_eqb, eqb-true}
use Rattle.words.specs.Refusal.{LENGTH, NOT_A_BIT, refused_at, done_if, in_turn, Answer, Done}
use Rattle.words.specs.Laws.Turns.{both_done, test_done}
use Rattle.tables.specs.Laws.Cases.{same_or_not}
use Rattle.frames.specs.Due.{RefusesWith}
use Rattle.frames.specs.Laws.Due.{Verdict, fine, due}
use Rattle.programs.specs.Symbols.{is_symbol, first_other, symbols_answer}
use Rattle.programs.specs.Due.{FirstOtherAt, SymbolsDue, length_due, character_due, AreCharacters}
use Rattle.programs.specs.Laws.Symbols.{other_le, all_at}

-- ---- any answer

pub refuses_is : (a : Answer) (n p : ℕ) → RefusesWith a n p → a ≡ refused_at n p
refuses_is (Ok _) n p h = absurd (h.some (sym h.number_is))
refuses_is (Err r) n p h = ap₂ refused_at h.number_is h.place_is

-- ---- the first other character

first_other_is : (l : List ℕ) → first_other l < length l → FirstOtherAt l (first_other l)
unfolding first_other
first_other_is [] h = absurd (omega arith)
first_other_is (c ∷ l) h = go (is_symbol c) refl (first_other_is l) h
  where
    later : is_symbol c ≡ true → FirstOtherAt l (first_other l) → FirstOtherAt (c ∷ l) (suc (first_other l))
    later e r = record { inside = omega (arith, r.inside); other = r.other; before = before }
      where
        before : (k : ℕ) → k < suc (first_other l) → is_symbol (get_or (c ∷ l) k 0) ≡ true
        before zero g = e
        before (suc k) g = r.before k (omega arith)

    go : (t : Bool) → is_symbol c ≡ t → (first_other l < length l → FirstOtherAt l (first_other l)) → cond t (suc (first_other l)) 0 < suc (length l)
        → FirstOtherAt (c ∷ l) (cond t (suc (first_other l)) 0)
    go true e ih g = later e (ih (omega arith))
    go false e ih g = record { inside = omega arith; other = e; before = λ k b. absurd (omega arith) }

first_other_when : (l : List ℕ) (p : ℕ) → FirstOtherAt l p → first_other l ≡ p
unfolding first_other
first_other_when [] p h = absurd (omega (arith, h.inside))
first_other_when (c ∷ l) zero h = ap (λ (t : Bool). cond t (suc (first_other l)) 0) h.other
first_other_when (c ∷ l) (suc p) h =
    ap (λ (t : Bool). cond t (suc (first_other l)) 0) (h.before 0 (omega arith))
    ∙ ap suc (first_other_when l p
    (record { inside = omega (arith, h.inside); other = h.other; before = λ k g. h.before (suc k) (omega arith) }))

-- ---- n symbols

module _ (n : ℕ) (text : List ℕ) where
  abbrev rest : Answer
  rest = done_if (eqb (first_other text) (length text)) NOT_A_BIT (first_other text)

  pub symbols_due_refused : (m p : ℕ) → SymbolsDue n text m p → (symbols_answer n text ≡ refused_at m p) × (m ≢ 0)
  symbols_due_refused m p (length_due h) = (ap (λ (t : Bool). in_turn (done_if t LENGTH 0) rest) (ne_eqb (length text) n h), λ e. omega arith)
  symbols_due_refused m p (character_due q long h) =
      let at = first_other_when text q h in (
        ap (λ (t : Bool). in_turn (done_if t LENGTH 0) rest) (eq-eqb (length text) n long)
            ∙ ap (λ (v : ℕ). done_if (eqb v (length text)) NOT_A_BIT v) at
            ∙ ap (λ (t : Bool). done_if t NOT_A_BIT q) (ne_eqb q (length text) (λ e. omega (arith, h.inside))),
        λ e. omega arith,
      )

  pub characters_done : AreCharacters n text → symbols_answer n text ≡ Done
  characters_done are = ap (λ (t : Bool). in_turn (done_if t LENGTH 0) rest) (eq-eqb (length text) n are.long) ∙ go (same_or_not (first_other text) (length text))
    where
      go : (first_other text ≡ length text) ⊎ (first_other text ≢ length text) → rest ≡ Done
      go (inl e) = ap (λ (t : Bool). done_if t NOT_A_BIT (first_other text)) (eq-eqb (first_other text) (length text) e)
      go (inr ne) =
          let h = first_other_is text (omega (arith, other_le text, ne)) in
          let z : ◌≡◌ {A = Bool} true false = sym (are.each (first_other text) h.inside) ∙ h.other in
          absurd (let c : ◌≡◌ {A = ℕ} 0 1 = cc in omega arith)

  pub done_all : symbols_answer n text ≡ Done → (length text ≡ n) × (first_other text ≡ length text)
  done_all e =
      let both = both_done (done_if (eqb (length text) n) LENGTH 0) rest e in (
        eqb-true (length text) n (test_done (eqb (length text) n) LENGTH 0 both.0),
        eqb-true (first_other text) (length text) (test_done (eqb (first_other text) (length text)) NOT_A_BIT (first_other text) both.1),
      )

  pub done_characters : symbols_answer n text ≡ Done → AreCharacters n text
  done_characters e = let h = done_all e in record { long = h.0; each = λ k inside. all_at text k h.1 inside }

  pub symbols_verdict : Verdict (symbols_answer n text) (SymbolsDue n text)
  symbols_verdict = by_length (same_or_not (length text) n)
    where
      by_other : length text ≡ n → (first_other text ≡ length text) ⊎ (first_other text ≢ length text) → Verdict (symbols_answer n text) (SymbolsDue n text)
      by_other long (inl e) = fine (characters_done (record { long = long; each = λ k inside. all_at text k e inside }))
      by_other long (inr ne) =
          due NOT_A_BIT (first_other text) (character_due (first_other text) long (first_other_is text (omega (arith, other_le text, ne))))

      by_length : (length text ≡ n) ⊎ (length text ≢ n) → Verdict (symbols_answer n text) (SymbolsDue n text)
      by_length (inl long) = by_other long (same_or_not (first_other text) (length text))
      by_length (inr h) = due LENGTH 0 (length_due h)
