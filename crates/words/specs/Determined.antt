-- THEOREMS: a contract that is an equation allows one answer, and one list of bytes left behind.
-- Assumes nothing.
use Rattle.std.specs.Prelude.{◌≡◌}
use Rattle.std.proofs.Common.{sym, ◌∙◌}

-- Any two answers that a contract `r ≡ definition` allows are equal.
pub one_answer : {A : Type 0} {r s definition : A} → r ≡ definition → s ≡ definition → r ≡ s
one_answer e f = e ∙ sym f

-- The same of a contract on the answer and on what is left in lent memory: `(result ≡ ..) × (x.new ≡ ..)`.
pub one_outcome : {A B : Type 0} {r s answer : A} {x y left : B} → (r ≡ answer) × (x ≡ left) → (s ≡ answer) × (y ≡ left)
    → (r ≡ s) × (x ≡ y)
one_outcome e f = (one_answer e.0 f.0, one_answer e.1 f.1)

-- The same where two memories are lent: `(result ≡ ..) × (x.new ≡ ..) × (y.new ≡ ..)`.
pub one_outcome_of_two : {A B : Type 0} {r s answer : A} {x y left u v left' : B} → (r ≡ answer) × (x ≡ left) × (u ≡ left')
    → (s ≡ answer) × (y ≡ left) × (v ≡ left') → (r ≡ s) × (x ≡ y) × (u ≡ v)
one_outcome_of_two e f = (one_answer e.0 f.0, one_answer e.1 f.1, one_answer e.2 f.2)
