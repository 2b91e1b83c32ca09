-- What is answered where bytes are judged before the rest, and where a first field out of range is judged.
-- Assumes nothing.
use Rattle.std.specs.Prelude.{◌≡◌, refl, Bool, List, ◌≢◌, ℕ, eqb, ℤ, length}
use Rattle.std.proofs.Common.{ap, ◌∙◌, arith, eqb-true, eq-eqb, ne_eqb}
use Rattle.words.specs.Bits.{IsBits, first_not_bit}
use Rattle.words.specs.Refusal.{LENGTH, NOT_A_BIT, refused_at, done_if, judged, Answer, Done}
use Rattle.words.specs.Laws.Digits.{bits_none, none_not_bit}
use Rattle.words.specs.Laws.Turns.{test_done, judged_on, judged_done}
use Rattle.fields.specs.Counts.{first_out, FirstOutAt, out_answer}
use Rattle.fields.specs.CountsBack.{first_out_when}
use Rattle.fields.specs.declared.table.Field.{Field}

-- ---- n bytes are asked for, and bits; then the rest is judged

abbrev pub judged_bits : ℕ → ℕ → List ℕ → Answer → Answer
judged_bits n m bits a = judged (eqb m n) (eqb (first_not_bit bits) (length bits)) (first_not_bit bits) a

module _ (n m : ℕ) (bits : List ℕ) (a : Answer) where
  pub judged_right : m ≡ n → IsBits bits → judged_bits n m bits a ≡ a
  judged_right e h =
      judged_on (eqb m n) (eqb (first_not_bit bits) (length bits)) (first_not_bit bits) a (eq-eqb m n e)
      (eq-eqb (first_not_bit bits) (length bits) (bits_none bits h))

  pub judged_length : m ≢ n → judged_bits n m bits a ≡ refused_at LENGTH 0
  judged_length e = rw (ne_eqb m n e) refl

  pub judged_byte : m ≡ n → (IsBits bits → ⊥) → judged_bits n m bits a ≡ refused_at NOT_A_BIT (first_not_bit bits)
  judged_byte e f = rw (eq-eqb m n e, ne_eqb (first_not_bit bits) (length bits) (λ h. f (none_not_bit bits h))) refl

  pub found_done : judged_bits n m bits a ≡ Done → (m ≡ n) × IsBits bits × (a ≡ Done)
  found_done e =
      let all = judged_done (eqb m n) (eqb (first_not_bit bits) (length bits)) (first_not_bit bits) a e in
      (eqb-true m n all.0, none_not_bit bits (eqb-true (first_not_bit bits) (length bits) all.1), all.2)

-- ---- a first field out of range

pub refused_at_place : (number q p : ℕ) → q ≡ p → (p ≡ 0 → ⊥) → done_if (eqb q 0) number q ≡ refused_at number p
refused_at_place number q p e n =
    ap (λ (x : ℕ). done_if (eqb x 0) number x) e ∙ ap (λ (t : Bool). done_if t number p) (ne_eqb p 0 n)

module _ (number at : ℕ) (fs : List Field) (zs : List ℤ) where
  pub counts_judged_lem : out_answer number at fs zs ≡ Done → first_out at fs zs ≡ 0
  counts_judged_lem e = eqb-true (first_out at fs zs) 0 (test_done (eqb (first_out at fs zs) 0) number (first_out at fs zs) e)

  pub counts_right : first_out at fs zs ≡ 0 → out_answer number at fs zs ≡ Done
  counts_right e = ap (λ (p : ℕ). done_if (eqb p 0) number p) e

  pub counts_wrong : (p : ℕ) → FirstOutAt at fs zs p → out_answer number at fs zs ≡ refused_at number p
  counts_wrong p o = refused_at_place number (first_out at fs zs) p (first_out_when at fs zs p o) (λ z. omega (arith, o.place))
