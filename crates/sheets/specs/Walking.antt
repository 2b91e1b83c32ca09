-- THEOREMS: the walk, a step of it. At place 0 it is finished; a refusal stays at its place.
-- Assumes nothing.
use Rattle.std.specs.Prelude.{◌≡◌, Option, None, Some, Result, Bool, cond, List, ℕ, ◌≤◌, ◌<◌, eqb, length, take}
use Rattle.std.proofs.Common.{ap, ap₂, ◌∙◌, arith, le-leb, ne_eqb}
use Rattle.std.proofs.lemmas.Bool.{lt-leb}
use Rattle.words.specs.Refusal.{LENGTH, refused_at}
use Rattle.words.specs.declared.refusal.Refusal.{Refusal}
use Rattle.frames.specs.Due.{RefusesWith}
use Rattle.sheets.specs.Sheet.{sheet_answer, sheet_read}
use Rattle.sheets.specs.Walk.{step_at, place_after}
use Rattle.sheets.specs.Refused.{refused_only}
use Rattle.sheets.specs.declared.sheet.Sheet.{Sheet}

-- At place 0 the walk is finished, and the place stays.
pub walk_finished : (s : List ℕ) → (step_at s 0 ≡ None) × (place_after (step_at s 0) 0 ≡ 0)
unfolding step_at
walk_finished s =
    let none = ap (λ (t : Bool). cond t None (Some (refused_at LENGTH 0))) (le-leb 0 (length s) (omega arith)) in
    (none, ap (λ (x : Option (Result Sheet Refusal)). place_after x 0) none)

-- A place past the end is refused 1 at 0, and the place stays.
pub walk_past_end : (s : List ℕ) (place : ℕ) → length s < place
    → (step_at s place ≡ Some (refused_at LENGTH 0)) × (place_after (step_at s place) place ≡ place)
unfolding step_at
walk_past_end s place h =
    let step = ap (λ (t : Bool). cond t (cond (eqb place 0) None (Some (sheet_read (take place s)))) (Some (refused_at LENGTH 0))) (lt-leb place (length s) h) in
    (step, ap (λ (x : Option (Result Sheet Refusal)). place_after x place) step)

-- At any other place the step is what reading the bytes before it gives.
pub walk_reads : (s : List ℕ) (place : ℕ) → 0 < place → place ≤ length s → step_at s place ≡ Some (sheet_read (take place s))
unfolding step_at
walk_reads s place some inside =
    ap₂ (λ (t u : Bool). cond t (cond u None (Some (sheet_read (take place s)))) (Some (refused_at LENGTH 0))) (le-leb place (length s) inside)
    (ne_eqb place 0 (λ e. omega arith))

-- On a refused sheet the walk gives the refusal, and its place stays.
pub walk_stays : (s : List ℕ) (place n p : ℕ) → 0 < place → place ≤ length s → RefusesWith (sheet_answer (take place s)) n p
    → (step_at s place ≡ Some (refused_at n p)) × (place_after (step_at s place) place ≡ place)
walk_stays s place n p some inside r =
    let step = walk_reads s place some inside ∙ ap Some (refused_only (take place s) n p r) in
    (step, ap (λ (x : Option (Result Sheet Refusal)). place_after x place) step)
