-- What is due in writing a sheet is refused, and numbers that nothing is due for are written.
-- Assumes nothing.
use Rattle.std.specs.Prelude.{◌≡◌, refl, Bool, true, false, List, ◌≢◌, ◌⊎◌, ℕ, ◌≤◌, ◌<◌, eqb, leb, ℤ, pos, length, get_or, drop}
use Rattle.std.proofs.Common.{sym, ap, ap₂, ◌∙◌, inl, inr, arith, eq-eqb, ne_eqb, le-leb}
use Rattle.std.proofs.lemmas.Bool.{lt-leb}
use Rattle.words.specs.Refusal.{LENGTH, TIME, FIELD_2, ROOM, refused_at, done_if, in_turn, Answer, Done}
use Rattle.tables.specs.Laws.Cases.{same_or_not, before_or_not}
use Rattle.fields.specs.Table.{no_field, fields_in}
use Rattle.fields.specs.Counts.{in_range, first_out}
use Rattle.fields.specs.CountsBack.{first_out_is, first_out_when}
use Rattle.fields.specs.Subframe2.{counts_answer}
use Rattle.fields.specs.declared.table.Table.TheVariants.{Subframe2}
use Rattle.frames.specs.Laws.Due.{Verdict, fine, due}
use Rattle.sheets.specs.List.{NUMBERS, sheet_fields}
use Rattle.sheets.specs.Write.{sheet_text, numbers_answer, write_answer}
use Rattle.sheets.specs.Due.{TimeOf, WriteDue, numbers_due, time_due, field_due, room_due}
use Rattle.sheets.specs.Laws.Lengths.{good_range, range_good}

module _ (zs : List ℤ) (out : List ℕ) where
  abbrev room : Answer
  room = done_if (leb (length (sheet_text zs)) (length out)) ROOM 0

  abbrev time_test : Bool
  time_test = in_range (get_or sheet_fields 0 no_field) (get_or zs 0 (pos 0))

  abbrev out2 : ℕ
  out2 = first_out 0 (fields_in Subframe2) (drop 1 zs)

  -- with a number for each name, the numbers and the room decide
  many_on : length zs ≡ NUMBERS → write_answer zs out ≡ in_turn (numbers_answer zs) room
  many_on n = ap (λ (t : Bool). in_turn (done_if t LENGTH 0) (in_turn (numbers_answer zs) room)) (eq-eqb (length zs) NUMBERS n)

  -- with a time too, the counts and the room
  time_on : length zs ≡ NUMBERS → TimeOf zs → write_answer zs out ≡ in_turn (counts_answer (drop 1 zs)) room
  time_on n t = many_on n ∙ ap (λ (x : Bool). in_turn (in_turn (done_if x TIME 0) (counts_answer (drop 1 zs))) room) t

  pub write_due_refused : (n p : ℕ) → WriteDue zs out n p → (write_answer zs out ≡ refused_at n p) × (n ≢ 0)
  write_due_refused n p (numbers_due other) = (
    ap (λ (t : Bool). in_turn (done_if t LENGTH 0) (in_turn (numbers_answer zs) room)) (ne_eqb (length zs) NUMBERS other),
    λ e. omega arith,
  )
  write_due_refused n p (time_due many none) = (
    many_on many ∙ ap (λ (t : Bool). in_turn (in_turn (done_if t TIME 0) (counts_answer (drop 1 zs))) room) (time_missing time_test refl),
    λ e. omega arith,
  )
    where
      time_missing : (t : Bool) → time_test ≡ t → time_test ≡ false
      time_missing true e = absurd (none e)
      time_missing false e = e
  write_due_refused n p (field_due q many time first) = (
    time_on many time
        ∙ ap (λ (v : ℕ). in_turn (done_if (eqb v 0) FIELD_2 v) room) (first_out_when 0 (fields_in Subframe2) (drop 1 zs) q first)
        ∙ ap (λ (t : Bool). in_turn (done_if t FIELD_2 q) room) (ne_eqb q 0 (λ e. omega (arith, first.place))),
    λ e. omega arith,
  )
  write_due_refused n p (room_due range less) =
      let good = range_good zs range in (
        many_on good.0
            ∙ ap₂ (λ (a : Answer) (t : Bool). in_turn a (done_if t ROOM 0)) good.1 (lt-leb (length (sheet_text zs)) (length out) less),
        λ e. omega arith,
      )

  pub write_verdict : Verdict (write_answer zs out) (WriteDue zs out)
  write_verdict = by_number (same_or_not (length zs) NUMBERS)
    where
      by_room : length zs ≡ NUMBERS → numbers_answer zs ≡ Done → (length out < length (sheet_text zs)) ⊎ (length (sheet_text zs) ≤ length out)
          → Verdict (write_answer zs out) (WriteDue zs out)
      by_room many good (inl less) = due ROOM 0 (room_due (good_range zs many good) less)
      by_room many good (inr enough) =
          fine (many_on many ∙ ap₂ (λ (a : Answer) (t : Bool). in_turn a (done_if t ROOM 0)) good (le-leb (length (sheet_text zs)) (length out) enough))

      by_counts : length zs ≡ NUMBERS → TimeOf zs → (out2 ≡ 0) ⊎ (out2 ≢ 0) → Verdict (write_answer zs out) (WriteDue zs out)
      by_counts many time (inl none) =
          by_room many
          (ap (λ (t : Bool). in_turn (done_if t TIME 0) (counts_answer (drop 1 zs))) time ∙ ap (λ (v : ℕ). done_if (eqb v 0) FIELD_2 v) none)
          (before_or_not (length out) (length (sheet_text zs)))
      by_counts many time (inr some) =
          due FIELD_2 out2 (field_due out2 many time (first_out_is 0 (fields_in Subframe2) (drop 1 zs) out2 refl some))

      by_time : length zs ≡ NUMBERS → (t : Bool) → time_test ≡ t → Verdict (write_answer zs out) (WriteDue zs out)
      by_time many true e = by_counts many e (same_or_not out2 0)
      by_time many false e =
          due TIME 0 (time_due many (λ h. let z : ◌≡◌ {A = Bool} true false = sym h ∙ e in let c : ◌≡◌ {A = ℕ} 0 1 = cc in omega arith))

      by_number : (length zs ≡ NUMBERS) ⊎ (length zs ≢ NUMBERS) → Verdict (write_answer zs out) (WriteDue zs out)
      by_number (inl many) = by_time many time_test refl
      by_number (inr other) = due LENGTH 0 (numbers_due other)
