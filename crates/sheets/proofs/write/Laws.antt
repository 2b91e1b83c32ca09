-- Lines written one after another, and what writing a sheet gives, case by case as the code finds it.
-- Assumes nothing.
use Rattle.std.proofs.Common.{Bor, Result}
use Rattle.std.proofs.lemmas.List.{length-map, get_or-map}
use mathlib.Core.Path.{◌≡◌, refl, sym, ap, ap₂, ◌∙◌}
use mathlib.Core.Bool.{Bool, true, false}
use mathlib.Core.List.{List, [], ◌∷◌, ◌++◌, append_assoc}
use Prim.Native.Nat.{ℕ, ◌+◌, ◌-◌, ◌≤◌, ◌<◌}
use native.Mathlib.Numerals.{add-one}
use native.Mathlib.Omega.{arith}
use lib.IntN.{ℤ, pos}
use lib.ListN.{length, get_or, take, drop, length-drop, drop_of_length-le}
use lib.Seq.{drop-cons, take_all}
use borrow.Author.Tests.{eq-eqb, ne_eqb}
use Rattle.words.specs.Refusal.{LENGTH, TIME, refused_at, done_if, in_turn, left_by, Answer, Done, given_by}
use Rattle.fields.specs.Table.{no_field}
use Rattle.fields.specs.Counts.{in_range}
use Rattle.fields.specs.Subframe2.{COUNTS_2, counts_answer, counts_judged}
use Rattle.sheets.specs.Text.{LINE_END, ended_by}
use Rattle.sheets.specs.List.{NUMBERS, sheet_names, sheet_fields}
use Rattle.sheets.specs.Sheet.{line_text, line_texts}
use Rattle.sheets.specs.Write.{sheet_text, numbers_answer, room_answer, write_answer, put_first, sheet_written, written_bytes, text_written, text_bytes}
use Rattle.sheets.specs.Laws.List.{listed_many}
use Rattle.sheets.proofs.list.Laws.{names_of}
use Rattle.words.specs.declared.refusal.Refusal.{Refusal}

-- ---- a line with its end

abbrev pub ended_line : List ℕ → ℤ → List ℕ
ended_line name z = line_text name z ++ LINE_END ∷ []

-- ---- the lines of the names and numbers from position k on

abbrev pub lines_from : List ℤ → ℕ → List ℕ
lines_from numbers k = ended_by LINE_END (line_texts (drop k sheet_names) (drop k numbers))

-- the first of them, and the others
pub line_next : (numbers : List ℤ) (k : ℕ) → k < length numbers → k < NUMBERS
    → lines_from numbers k ≡ ended_line (get_or sheet_names k []) (get_or numbers k (pos 0)) ++ lines_from numbers (k + 1)
unfolding line_texts ended_by
line_next numbers k h m =
    let name = get_or sheet_names k [] in
    let z = get_or numbers k (pos 0) in
    let names_on : drop k sheet_names ≡ name ∷ drop (k + 1) sheet_names = rw add-one (drop-cons sheet_names k [] (omega (arith, listed_many))) in
    let numbers_on : drop k numbers ≡ z ∷ drop (k + 1) numbers = rw add-one (drop-cons numbers k (pos 0) h) in
    ap₂ (λ (x : List (List ℕ)) (y : List ℤ). ended_by LINE_END (line_texts x y)) names_on numbers_on
    ∙ sym (append_assoc (line_text name z) (LINE_END ∷ []) (lines_from numbers (k + 1)))

-- the same by a name and a number that are lent
pub line_here : (lent : List (Bor (List ℕ))) (numbers : List ℤ) (k : ℕ) (name : Bor (List ℕ)) (z : ℤ) → names_of lent ≡ sheet_names
    → k < length lent → k < length numbers → ((d : Bor (List ℕ)) → name ≡ get_or lent k d) → ((d : ℤ) → z ≡ get_or numbers k d)
    → lines_from numbers k ≡ ended_line name.now z ++ lines_from numbers (k + 1)
line_here lent numbers k name z e h m here there =
    let now = λ (x : Bor (List ℕ)). x.now in
    let many = sym (length-map lent now) ∙ ap length e ∙ listed_many in
    let listed : get_or sheet_names k [] ≡ name.now =
    ap (λ (names : List (List ℕ)). get_or names k []) (sym e) ∙ get_or-map now lent k name [] h ∙ ap now (sym (here name)) in
    line_next numbers k m (omega arith)
    ∙ ap₂ (λ (n : List ℕ) (x : ℤ). ended_line n x ++ lines_from numbers (k + 1)) listed (sym (there (pos 0)))

-- no number is left
no_lines : (names : List (List ℕ)) → ended_by LINE_END (line_texts names []) ≡ []
unfolding line_texts ended_by
no_lines [] = refl
no_lines (name ∷ names) = refl

pub lines_done : (numbers : List ℤ) (k : ℕ) → length numbers ≤ k → lines_from numbers k ≡ []
lines_done numbers k h =
    ap (λ (zs : List ℤ). ended_by LINE_END (line_texts (drop k sheet_names) zs)) (drop_of_length-le numbers h) ∙ no_lines (drop k sheet_names)

-- ---- judging the numbers

module _ (zs : List ℤ) where
  by_time : (t : Bool) → in_range (get_or sheet_fields 0 no_field) (get_or zs 0 (pos 0)) ≡ t
      → in_turn (done_if t TIME 0) (counts_answer (drop 1 zs)) ≡ numbers_answer zs
  by_time t e = ap (λ (x : Bool). in_turn (done_if x TIME 0) (counts_answer (drop 1 zs))) (sym e)

  pub wrong_time : in_range (get_or sheet_fields 0 no_field) (get_or zs 0 (pos 0)) ≡ false → refused_at TIME 0 ≡ numbers_answer zs
  wrong_time e = by_time false e

  pub right_time : length zs ≡ NUMBERS → in_range (get_or sheet_fields 0 no_field) (get_or zs 0 (pos 0)) ≡ true
      → counts_judged (take (length zs - 1) (drop 1 zs)) ≡ numbers_answer zs
  right_time n e =
      ap counts_judged (take_all (length zs - 1) (drop 1 zs) (omega (arith, length-drop 1 zs)))
      ∙ ap (λ (t : Bool). in_turn (done_if t LENGTH 0) (counts_answer (drop 1 zs)))
      (eq-eqb (length (drop 1 zs)) COUNTS_2 (omega (arith, length-drop 1 zs)))
      ∙ by_time true e

-- ---- what writing a sheet gives

module _ (zs : List ℤ) (out : List ℕ) where
  by_answer : (a : Answer) (r : Result ℕ Refusal) (left : List ℕ) → write_answer zs out ≡ a → r ≡ given_by a (length (sheet_text zs))
      → left ≡ left_by a (put_first (sheet_text zs) out) out → (r ≡ sheet_written zs out) × (left ≡ written_bytes zs out)
  unfolding sheet_written written_bytes
  by_answer a r left e f g = (
    f ∙ ap (λ (x : Answer). given_by x (length (sheet_text zs))) (sym e),
    g ∙ ap (λ (x : Answer). left_by x (put_first (sheet_text zs) out) out) (sym e),
  )

  -- another number of numbers
  pub wrong_length : (r : Result ℕ Refusal) → (length zs ≡ NUMBERS → ⊥) → r ≡ refused_at LENGTH 0
      → (r ≡ sheet_written zs out) × (out ≡ written_bytes zs out)
  wrong_length r n e =
      by_answer (refused_at LENGTH 0) r out
      (ap (λ (t : Bool). in_turn (done_if t LENGTH 0) (in_turn (numbers_answer zs) (room_answer (sheet_text zs) out))) (ne_eqb (length zs) NUMBERS n))
      e refl

  module _ (n : length zs ≡ NUMBERS) where
    answer_is : (a : Answer) → numbers_answer zs ≡ a → write_answer zs out ≡ in_turn a (room_answer (sheet_text zs) out)
    answer_is a e =
        ap₂ (λ (t : Bool) (x : Answer). in_turn (done_if t LENGTH 0) (in_turn x (room_answer (sheet_text zs) out))) (eq-eqb (length zs) NUMBERS n) e

    -- a number out of its range
    pub not_good : (r : Result ℕ Refusal) (number place : ℕ) → numbers_answer zs ≡ refused_at number place → r ≡ refused_at number place
        → (r ≡ sheet_written zs out) × (out ≡ written_bytes zs out)
    not_good r number place e f = by_answer (refused_at number place) r out (answer_is (refused_at number place) e) f refl

    -- the sheet of good numbers is written as a text
    pub good_written : (r : Result ℕ Refusal) (left : List ℕ) → numbers_answer zs ≡ Done → r ≡ text_written (sheet_text zs) out → left ≡ text_bytes (sheet_text zs) out
        → (r ≡ sheet_written zs out) × (left ≡ written_bytes zs out)
    unfolding text_written text_bytes
    good_written r left good e f = by_answer (room_answer (sheet_text zs) out) r left (answer_is Done good) e f
