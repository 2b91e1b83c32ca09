-- Bytes into which bits were put: the bits stand there, and the others stay; and what a test has answered and left.
-- Assumes nothing.
use Rattle.std.specs.Prelude.{◌≡◌, refl, Bool, true, false, List, [], ◌∷◌, ◌++◌, ◌⊎◌, ℕ, suc, ◌+◌, ◌≤◌, ◌<◌, length, get_or, take, drop, set}
use Rattle.std.proofs.Common.{sym, ap, ◌∙◌, append_assoc, inl, inr, ⊎_elim, arith, length-drop, take-append-drop, length-take-le, take_at, take-add, drop_at, get_or-set_other}
use Rattle.std.proofs.Math.Nat.{min-eq_left}
use Rattle.std.proofs.lemmas.List.Edits.{sets, sets-eq}
use Rattle.words.specs.Bits.{bits_of, bits_at, put_answer, put_bytes}
use Rattle.words.specs.Refusal.{LENGTH, refused_at, left_if, Answer, Done}
use Rattle.words.specs.Laws.Digits.{length_bits}

sets_part : (l : List ℕ) (at : ℕ) (bits : List ℕ) → at + length bits ≤ length l
    → take (length bits) (drop at (sets l at bits)) ≡ bits
sets_part l at bits h =
    let rest = drop (at + length bits) l in
    ap (λ (x : List ℕ). take (length bits) (drop at x)) (sets-eq bits l at h ∙ append_assoc (take at l) bits rest)
    ∙ ap (take (length bits)) (drop_at (take at l) (bits ++ rest) at (length-take-le at l (omega arith)))
    ∙ take_at bits rest (length bits) refl

pub sets_other : (l : List ℕ) (at : ℕ) (bits : List ℕ) (k : ℕ) → (k < at) ⊎ (at + length bits ≤ k)
    → get_or (sets l at bits) k 0 ≡ get_or l k 0
sets_other l at [] k h = refl
sets_other l at (b ∷ bits) k h =
    sets_other (set l at b) (suc at) bits k (⊎_elim (λ g. inl (omega arith)) (λ g. inr (omega arith)) h)
    ∙ get_or-set_other l at k b 0 (λ e. ⊎_elim (λ g. omega arith) (λ g. omega arith) h)

-- what was put stands there
pub put_back : (fits : Bool) (l : List ℕ) (at w n : ℕ) → w ≤ 64 → fits ≡ true → at + w ≤ length l
    → bits_at (put_bytes fits l at (bits_of w n)) at w ≡ bits_of w n
put_back fits l at w n h e inside =
    let count = length_bits w n in
    ap (λ (t : Bool). bits_at (put_bytes t l at (bits_of w n)) at w) e
    ∙ ap (λ (k : ℕ). take k (drop at (sets l at (bits_of w n)))) (min-eq_left h ∙ sym count)
    ∙ sets_part l at (bits_of w n) (omega arith)

-- what stands there, put again
pub sets_same : (l : List ℕ) (at w : ℕ) → at + w ≤ length l → sets l at (take w (drop at l)) ≡ l
sets_same l at w h =
    let count : length (take w (drop at l)) ≡ w = length-take-le w (drop at l) (simp length-drop (omega arith)) in
    sets-eq (take w (drop at l)) l at (omega arith)
    ∙ ap (λ (k : ℕ). take at l ++ take w (drop at l) ++ drop (at + k) l) count
    ∙ ap (λ (x : List ℕ). x ++ drop (at + w) l) (sym (take-add at w l))
    ∙ take-append-drop (at + w) l

-- ---- what is answered and left, by a test

-- where it fails, the refusal is answered and the bytes stay
pub refused_leaves : (fits : Bool) (r : Answer) (l new : List ℕ) → fits ≡ false → r ≡ refused_at LENGTH 0
    → (r ≡ put_answer fits) × (l ≡ left_if fits new l)
refused_leaves fits r l new e f = (f ∙ ap put_answer (sym e), ap (λ (t : Bool). left_if t new l) (sym e))

-- where it holds, the new bytes are left
pub done_leaves : (fits : Bool) (r : Answer) (l out new : List ℕ) → fits ≡ true → r ≡ Done → out ≡ new
    → (r ≡ put_answer fits) × (out ≡ left_if fits new l)
done_leaves fits r l out new e f g = (f ∙ ap put_answer (sym e), g ∙ ap (λ (t : Bool). left_if t new l) (sym e))
