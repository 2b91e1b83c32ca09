-- THEOREMS: demand 2, writing a sheet. Which numbers are written, which are refused, where; and what is then in the lent bytes.
-- Assumes nothing.
use Rattle.std.specs.Prelude.{◌≡◌, refl, Bool, List, ◌++◌, ◌↔◌, ℕ, ◌≤◌, eqb, leb, ℤ, length, drop}
use Rattle.std.proofs.Common.{ap, ap₂, ◌∙◌, arith, eq-eqb, eqb-true, le-leb, leb-true}
use Rattle.words.specs.Refusal.{LENGTH, ROOM, done_if, in_turn, left_by, Answer, Done, given_by}
use Rattle.words.specs.Unchanged.{Refuses, refused_by_answer}
use Rattle.words.specs.Laws.Turns.{both_done, test_done}
use Rattle.fields.specs.Counts.{AllInRange}
use Rattle.frames.specs.Due.{RefusesWith}
use Rattle.frames.specs.Laws.Due.{refused_by}
use Rattle.sheets.specs.List.{NUMBERS, sheet_names, sheet_fields}
use Rattle.sheets.specs.Sheet.{line_texts, IsSheet}
use Rattle.sheets.specs.Write.{sheet_text, numbers_answer, write_answer, sheet_written, written_bytes}
use Rattle.sheets.specs.Due.{WriteDue}
use Rattle.sheets.specs.Laws.Lengths.{good_range, range_good, lines_short}
use Rattle.sheets.specs.Laws.Writing.{write_due_refused, write_verdict}

-- ---- writing

-- Numbers are written exactly if there is one for each name, each in its field's range, and the sheet has room.
pub write_exactly : (zs : List ℤ) (out : List ℕ) → (write_answer zs out ≡ Done) ↔ (AllInRange sheet_fields zs × (length (sheet_text zs) ≤ length out))
write_exactly zs out = (to, from)
  where
    to : write_answer zs out ≡ Done → AllInRange sheet_fields zs × (length (sheet_text zs) ≤ length out)
    to e =
        let room = done_if (leb (length (sheet_text zs)) (length out)) ROOM 0 in
        let first = both_done (done_if (eqb (length zs) NUMBERS) LENGTH 0) (in_turn (numbers_answer zs) room) e in
        let second = both_done (numbers_answer zs) room first.1 in
        let many = eqb-true (length zs) NUMBERS (test_done (eqb (length zs) NUMBERS) LENGTH 0 first.0) in (
          good_range zs many second.0,
          leb-true (length (sheet_text zs)) (length out) (test_done (leb (length (sheet_text zs)) (length out)) ROOM 0 second.1),
        )

    from : AllInRange sheet_fields zs × (length (sheet_text zs) ≤ length out) → write_answer zs out ≡ Done
    from h =
        let good = range_good zs h.0 in
        ap (λ (t : Bool). in_turn (done_if t LENGTH 0) (in_turn (numbers_answer zs) (done_if (leb (length (sheet_text zs)) (length out)) ROOM 0)))
        (eq-eqb (length zs) NUMBERS good.0)
        ∙ ap₂ (λ (a : Answer) (t : Bool). in_turn a (done_if t ROOM 0)) good.1 (le-leb (length (sheet_text zs)) (length out) h.1)

-- Then the sheet stands from the first lent byte on, the bytes after it stay, and its length is handed back.
pub write_bytes : (zs : List ℤ) (out : List ℕ) → write_answer zs out ≡ Done
    → (written_bytes zs out ≡ sheet_text zs ++ drop (length (sheet_text zs)) out) × (sheet_written zs out ≡ given_by Done (length (sheet_text zs)))
unfolding written_bytes sheet_written
write_bytes zs out e = (
  ap (λ (a : Answer). left_by a (sheet_text zs ++ drop (length (sheet_text zs)) out) out) e,
  ap (λ (a : Answer). given_by a (length (sheet_text zs))) e,
)

-- Writing refuses with number n at p exactly where that is due.
pub write_refused_exactly : (zs : List ℤ) (out : List ℕ) (n p : ℕ) → RefusesWith (write_answer zs out) n p ↔ WriteDue zs out n p
write_refused_exactly zs out n p = refused_by (write_answer zs out) (WriteDue zs out) (write_due_refused zs out) (write_verdict zs out) n p

-- Where writing is refused, the lent bytes are as they were.
pub write_unchanged : (zs : List ℤ) (out : List ℕ) → Refuses (write_answer zs out) → written_bytes zs out ≡ out
unfolding written_bytes
write_unchanged zs out h = refused_by_answer (write_answer zs out) (sheet_text zs ++ drop (length (sheet_text zs)) out) out h

-- ---- there and back

-- What is written is a sheet of its numbers.
pub written_right : (zs : List ℤ) → AllInRange sheet_fields zs → IsSheet zs (sheet_text zs)
unfolding sheet_text
written_right zs range = record {
  within_range = range;
  lines = line_texts sheet_names zs;
  same_lines = record { each = λ x. refl };
  few = omega (arith, lines_short zs range);
  text = refl;
}
