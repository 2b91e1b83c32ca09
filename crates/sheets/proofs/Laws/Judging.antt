-- The lines of a sheet, judged one by one.
-- Assumes nothing.
use Rattle.std.specs.Prelude.{◌≡◌, eqb, take, drop}
use Rattle.std.proofs.Math.Path.{refl, ap, ap₂}
use Rattle.std.proofs.Common.{sym, ◌∙◌, arith, length-append, take-suc, take_all, drop-cons}
use mathlib.Core.List.{List, [], ◌∷◌, ◌++◌}
use Prim.Native.Nat.{ℕ, zero, suc, ◌+◌, ◌≤◌, ◌<◌}
use Rattle.std.proofs.Math.ListN.{length, get_or}
use Rattle.std.proofs.Math.Seq.{drop-length}
use Rattle.words.specs.Refusal.{LINE, refused_at, done_if, in_turn, Answer}
use Rattle.sheets.specs.Text.{LINE_END, ended_by}
use Rattle.sheets.specs.Lines.{missing_answer, lines_answer}
use Rattle.sheets.specs.Due.{line_place, DueAt}
use Rattle.sheets.specs.Laws.Text.{ended_append}
use Rattle.sheets.specs.Laws.Judging.{due_refused, FineUpTo, line_on}

-- where the next line begins
place_on : (lines : List (List ℕ)) (i : ℕ) → i < length lines → line_place lines i + length (get_or lines i []) + 1 ≡ line_place lines (suc i)
unfolding ended_by
place_on lines i h =
    omega (
      arith,
      ap length (ap (ended_by LINE_END) (take-suc lines i [] h) ∙ ended_append LINE_END (take i lines) (get_or lines i [] ∷ [])),
      length-append (ended_by LINE_END (take i lines)) (get_or lines i [] ++ LINE_END ∷ []),
      length-append (get_or lines i []) (LINE_END ∷ []),
    )

module _ (lines : List (List ℕ)) (rest : List ℕ) where
  -- after i lines that are fine, the others are judged
  pub lines_on : (i : ℕ) → i ≤ length lines → FineUpTo lines i
      → lines_answer [] 0 lines rest ≡ lines_answer (take i lines) (line_place lines i) (drop i lines) rest
  unfolding ended_by
  lines_on zero h all = refl
  lines_on (suc i) h all =
      lines_on i (omega arith) (λ j b. all j (omega arith))
      ∙ ap (λ (ls : List (List ℕ)). lines_answer (take i lines) (line_place lines i) ls rest) (drop-cons lines i [] h)
      ∙ line_on (take i lines) (line_place lines i) (get_or lines i []) (drop (suc i) lines) rest (all i (omega arith))
      ∙ ap₂ (λ (ls : List (List ℕ)) (p : ℕ). lines_answer ls p (drop (suc i) lines) rest) (sym (take-suc lines i [] h)) (place_on lines i h)

  -- the first line that something is due for is refused
  pub line_refused : (i n : ℕ) → i < length lines → FineUpTo lines i → DueAt lines i n → lines_answer [] 0 lines rest ≡ refused_at n (line_place lines i)
  unfolding lines_answer
  line_refused i n h all d =
      lines_on i (omega arith) all
      ∙ ap (λ (ls : List (List ℕ)). lines_answer (take i lines) (line_place lines i) ls rest) (drop-cons lines i [] h)
      ∙ ap (λ (a : Answer). in_turn a (lines_answer (take i lines ++ get_or lines i [] ∷ []) (line_place lines i + length (get_or lines i []) + 1) (drop (suc i) lines) rest))
      (due_refused (take i lines) (line_place lines i) (get_or lines i []) n d).0

  -- after all lines: what stands after the last one's end, and then the missing name
  pub lines_end : FineUpTo lines (length lines)
      → lines_answer [] 0 lines rest ≡ in_turn (done_if (eqb (length rest) 0) LINE (line_place lines (length lines))) (missing_answer lines)
  unfolding lines_answer
  lines_end all =
      lines_on (length lines) (omega arith) all
      ∙ ap₂ (λ (ls ms : List (List ℕ)). lines_answer ls (line_place lines (length lines)) ms rest) (take_all (length lines) lines (omega arith))
      (drop-length lines)
