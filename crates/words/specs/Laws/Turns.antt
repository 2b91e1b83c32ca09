-- Answers that are judged in turn.
-- Assumes nothing.
use Rattle.std.specs.Prelude.{◌≡◌, refl, Bool, true, false, List, ℕ, Result, Ok, Err, eqb, length}
use Rattle.std.proofs.Common.{sym, ap, arith}
use borrow.Author.Tests.{eqb-true}
use Rattle.words.specs.Bits.{bits_judged, first_not_bit}
use Rattle.words.specs.Refusal.{NOT_A_BIT, Answer, Done, answer_of, given_by, refusal_at, refused_at, done_if, in_turn, judged, number_of}
use Rattle.words.specs.declared.refusal.Refusal.{Refusal}
use Rattle.std.specs.Result.{result_unwrap_or}

-- an answer is one of the two
pub data Answered (a : Answer) : Type 0 where
  done : a ≡ Done → Answered a
  refused : (n p : ℕ) → a ≡ refused_at n p → Answered a

pub answered : (a : Answer) → Answered a
answered (Ok _) = done refl
answered (Err r) = refused r.number r.place refl

-- a refusal is its number and place
pub refusal_is : (r : Refusal) (n p : ℕ) → r.number ≡ n → r.place ≡ p → r ≡ refusal_at n p
refusal_is r n p e f = λ i. record { number = e i; place = f i }

-- no refusal is done
pub not_done : (n p : ℕ) → refused_at n p ≡ Done → ⊥
not_done n p e = let z : ◌≡◌ {A = ℕ} 0 1 = ap refused_or_not (sym e) in omega arith
  where
    refused_or_not : Answer → ℕ
    refused_or_not (Ok _) = 0
    refused_or_not (Err r) = 1

pub both_done : (a b : Answer) → in_turn a b ≡ Done → (a ≡ Done) × (b ≡ Done)
both_done (Ok _) b e = (refl, e)
both_done (Err r) b e = absurd (not_done r.number r.place e)

pub test_done : (t : Bool) (n p : ℕ) → done_if t n p ≡ Done → t ≡ true
test_done true n p e = refl
test_done false n p e = absurd (not_done n p e)

-- what is given by an answer has that answer
pub given_answer : {A : Type 0} (a : Answer) (x : A) → answer_of (given_by a x) ≡ a
given_answer (Ok _) x = refl
given_answer (Err r) x = refl

-- what is given is one thing
pub ok_same : {A : Type 0} (x y : A) → ◌≡◌ {A = Result A Refusal} (Ok x) (Ok y) → x ≡ y
ok_same x y e = ap (λ (r : Result _ Refusal). result_unwrap_or r x) e

-- and where something is given, the answer is done, and that is it
pub given_ok : {A : Type 0} (a : Answer) (x y : A) → given_by a x ≡ Ok y → (a ≡ Done) × (y ≡ x)
given_ok (Ok _) x y e = (refl, sym (ok_same x y e))
given_ok (Err r) x y e = absurd (not_done r.number r.place (ap answer_of e))

-- lent bytes of the right length that are bits are judged by what else is answered
pub judged_on : (l b : Bool) (first_not : ℕ) (a : Answer) → l ≡ true → b ≡ true → judged l b first_not a ≡ a
judged_on l b first_not a e f = rw (e, f) refl

-- and only such are done
pub judged_done : (l b : Bool) (first_not : ℕ) (a : Answer) → judged l b first_not a ≡ Done → (l ≡ true) × (b ≡ true) × (a ≡ Done)
judged_done true true first_not a e = (refl, refl, e)
judged_done true false first_not a e = absurd (not_done 2 first_not e)
judged_done false b first_not a e = absurd (not_done 1 0 e)

-- ---- lent bytes that are to be bits

module _ (l : List ℕ) where
  -- they are where that is not refused
  pub bits_done : bits_judged l ≡ Done → first_not_bit l ≡ length l
  bits_done e =
      eqb-true (first_not_bit l) (length l) (test_done (eqb (first_not_bit l) (length l)) NOT_A_BIT (first_not_bit l) e)

-- ---- an answer whose number is 0 is done

-- no refusal of the answer has the number 0
abbrev pub Numbered : Answer → Type 0
Numbered a = number_of a ≡ 0 → a ≡ Done

pub test_numbered : (t : Bool) (n p : ℕ) → (n ≡ 0 → ⊥) → Numbered (done_if t n p)
test_numbered true n p h e = refl
test_numbered false n p h e = absurd (h e)

pub turn_numbered : (a b : Answer) → Numbered a → Numbered b → Numbered (in_turn a b)
turn_numbered (Ok _) b ha hb e = hb e
turn_numbered (Err r) b ha hb e = ha e
