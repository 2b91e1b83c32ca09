-- THEOREMS: every known result that document 01 marks P is what the definitions give.
-- Assumes nothing.
use Rattle.std.specs.Prelude.{◌≡◌, ℕ, ◌<◌, List, [], length, get_or, ℤ}
use Rattle.std.proofs.Common.{sym, ap, ◌∙◌}
use Rattle.std.proofs.Math.ListN.{get_or-map}
use Rattle.known.specs.Rows.{KnownResult, known_case}
use Rattle.known.specs.KnownResults.{known_results, case_at, computed}

-- For every row of the table, what the definitions give is what document 01 expects.
pub as_expected : (k : ℕ) → k < length known_results → (case_at k).given ≡ (case_at k).expected
as_expected k h =
    sym (get_or-map (λ (r : KnownResult). r.given) known_results k (known_case "" [] []))
    ∙ ap (λ (l : List (List ℤ)). get_or l k []) computed
    ∙ get_or-map (λ (r : KnownResult). r.expected) known_results k (known_case "" [] [])
