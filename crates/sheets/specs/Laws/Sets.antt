-- Bytes written one after another.
-- Assumes nothing.
use Rattle.std.specs.Prelude.{◌≡◌, List, [], ◌∷◌, ◌++◌, ℕ, suc, ◌+◌, ◌≤◌, length, drop, set}
use Rattle.std.proofs.Common.{ap, ◌∙◌, add-zero, zero-add, arith}
use Rattle.std.proofs.lemmas.List.Edits.{sets, sets-eq}

-- a text of two parts, written whole or part by part
pub sets_append : (u v l : List ℕ) (i : ℕ) → sets l i (u ++ v) ≡ sets (sets l i u) (i + length u) v
sets_append [] v l i = rw add-zero
sets_append (x ∷ u) v l i =
    let e : suc i + length u ≡ i + suc (length u) = omega arith in
    sets_append u v (set l i x) (suc i) ∙ rw e

-- a text written from the first place on
pub sets_front : (vs l : List ℕ) → length vs ≤ length l → sets l 0 vs ≡ vs ++ drop (length vs) l
sets_front vs l h = sets-eq vs l 0 (omega arith) ∙ ap (λ (n : ℕ). vs ++ drop n l) (zero-add (length vs))
