-- Texts written one after another, and what is printed of them.
-- Assumes nothing.
use Rattle.std.specs.Prelude.{◌≡◌, Bool, List, ◌++◌, ℕ, ◌+◌, ◌-◌, ◌≤◌, ℤ, length, take, drop, replicate, Ok}
use Rattle.std.proofs.Common.{sym, ap₂, ◌∙◌, append-nil, append_assoc, arith, length-append, length-drop, drop_of_length-le, drop-drop, Result}
use Rattle.std.proofs.Math.Path.{ap}
use Rattle.std.proofs.lemmas.List.{length-replicate}
use Rattle.std.proofs.Math.Seq.{take_all}
use Rattle.std.proofs.lemmas.List.Edits.{sets, sets-eq}
use borrow.Author.Tests.{le-leb}
use Rattle.words.specs.Refusal.{ROOM, done_if, left_by, given_by}
use Rattle.fields.specs.Counts.{AllInRange}
use Rattle.sheets.specs.List.{sheet_fields}
use Rattle.sheets.specs.Write.{sheet_text, put_first, sheet_written, written_bytes, text_written, text_bytes, size_written}
use Rattle.sheets.specs.Writing.{write_exactly, write_bytes}
use Rattle.sheets.specs.Laws.Sets.{sets_append, sets_front}
use Rattle.words.specs.declared.refusal.Refusal.{Refusal}
use Rattle.programs.specs.Output.{OUTPUT_BYTES, symbol_line, output_of}
use Rattle.programs.specs.Laws.Lines.{symbol_line_long}
use Rattle.programs.specs.declared.output.Output.{Output}

-- ---- one text after another

-- written from `at` on, the text ends before `end`, and l is o then
abbrev pub Puts : List ℕ → ℕ → List ℕ → ℕ → List ℕ → Type 0
Puts l at text end o = (end ≡ at + length text) × (o ≡ sets l at text)

-- a text of two parts, one written behind the other
pub puts_on : (l : List ℕ) (at : ℕ) (u v : List ℕ) (mid : ℕ) (m : List ℕ) (end : ℕ) (o : List ℕ) → Puts l at u mid m → Puts m mid v end o
    → Puts l at (u ++ v) end o
puts_on l at u v mid m end o first second = (
  omega (arith, first.0, second.0, length-append u v),
  second.1 ∙ ap₂ (λ (x : List ℕ) (n : ℕ). sets x n v) first.1 first.0 ∙ sym (sets_append u v l at),
)

-- the same of what is printed
abbrev pub Adds : Output → List ℕ → Output → Type 0
Adds o text p = Puts o.bytes o.size text p.size p.bytes

pub adds_on : (o : Output) (u v : List ℕ) (m p : Output) → Adds o u m → Adds m v p → Adds o (u ++ v) p
adds_on o u v m p first second = puts_on o.bytes o.size u v m.size m.bytes p.size p.bytes first second

pub line_added : (o : Output) (symbols : List ℕ) (p : Output) → p.size ≡ o.size + (length symbols + 1)
    → p.bytes ≡ sets o.bytes o.size (symbol_line symbols) → Adds o (symbol_line symbols) p
line_added o symbols p size bytes = (omega (arith, symbol_line_long symbols), bytes)

-- ---- a text written into the part from `at` on of n bytes

-- the part that is lent, and the whole when it is back
abbrev pub part_from : ℕ → ℕ → List ℕ → List ℕ
part_from n at out = take (n - at) (drop at out)

abbrev pub with_part : ℕ → ℕ → List ℕ → List ℕ → List ℕ
with_part n at out part = take at out ++ (part ++ drop (n - at) (drop at out))

module _ (text out : List ℕ) (n at : ℕ) (long : length out ≡ n) (room : at + length text ≤ n) where
  -- the text put in the place of as many bytes
  pub text_set : take at out ++ (text ++ drop (length text) (drop at out)) ≡ sets out at text
  text_set =
      ap (λ (r : List ℕ). take at out ++ (text ++ r)) (drop-drop (length text) at out)
      ∙ sym (append_assoc (take at out) text (drop (at + length text) out))
      ∙ sym (sets-eq text out at (omega arith))

  part_whole : part_from n at out ≡ drop at out
  part_whole = take_all (n - at) (drop at out) (omega (arith, length-drop at out))

  room_in_part : length text ≤ length (part_from n at out)
  room_in_part = omega (arith, ap length part_whole, length-drop at out)

  part_put : (size : ℕ) (part : List ℕ) → size ≡ length text → part ≡ put_first text (part_from n at out)
      → Puts out at text (at + size) (with_part n at out part)
  part_put size part s e =
      let none = drop_of_length-le (drop at out) {i = n - at} (omega (arith, length-drop at out)) in (
        ap (λ (k : ℕ). at + k) s,
        ap₂ (λ (p r : List ℕ). take at out ++ (p ++ r)) e none
            ∙ ap (λ (p : List ℕ). take at out ++ p) (append-nil (put_first text (part_from n at out)))
            ∙ ap (λ (r : List ℕ). take at out ++ (text ++ drop (length text) r)) part_whole
            ∙ text_set,
      )

  -- so the text is written
  pub text_fits : text_written text (part_from n at out) ≡ Ok (length text)
  unfolding text_written
  text_fits = ap (λ (t : Bool). given_by (done_if t ROOM 0) (length text)) (le-leb (length text) (length (part_from n at out)) room_in_part)

  pub text_put : (written : Result ℕ Refusal) (part : List ℕ) → written ≡ text_written text (part_from n at out)
      → part ≡ text_bytes text (part_from n at out) → Puts out at text (at + size_written written) (with_part n at out part)
  unfolding text_written text_bytes
  text_put written part w e =
      let fits = le-leb (length text) (length (part_from n at out)) room_in_part in
      part_put (size_written written) part (ap size_written w ∙ ap (λ (t : Bool). size_written (given_by (done_if t ROOM 0) (length text))) fits)
      (e ∙ ap (λ (t : Bool). left_by (done_if t ROOM 0) (put_first text (part_from n at out)) (part_from n at out)) fits)

-- a sheet of good numbers in the same way
module _ (zs : List ℤ) (out : List ℕ) (n at : ℕ) (range : AllInRange sheet_fields zs) (long : length out ≡ n)
    (room : at + length (sheet_text zs) ≤ n) where
  -- it is written
  pub sheet_fits : sheet_written zs (part_from n at out) ≡ Ok (length (sheet_text zs))
  sheet_fits =
      let answer = (write_exactly zs (part_from n at out)).1 (range, room_in_part (sheet_text zs) out n at long room) in
      (write_bytes zs (part_from n at out) answer).1

  pub sheet_put : (written : Result ℕ Refusal) (part : List ℕ) → written ≡ sheet_written zs (part_from n at out)
      → part ≡ written_bytes zs (part_from n at out) → Puts out at (sheet_text zs) (at + size_written written) (with_part n at out part)
  sheet_put written part w e =
      let answer = (write_exactly zs (part_from n at out)).1 (range, room_in_part (sheet_text zs) out n at long room) in
      let is = write_bytes zs (part_from n at out) answer in
      part_put (sheet_text zs) out n at long room (size_written written) part (ap size_written (w ∙ is.1)) (e ∙ is.0)

-- ---- what is printed

-- all of it stands in the bytes
pub size_fits : (o : Output) (text : List ℕ) → length o.bytes ≡ OUTPUT_BYTES → o ≡ output_of text → o.size ≤ OUTPUT_BYTES
unfolding output_of
size_fits o text long e =
    omega (
      arith,
      long,
      ap (λ (p : Output). length p.bytes) e,
      ap (λ (p : Output). p.size) e,
      length-append text (drop (length text) (replicate OUTPUT_BYTES 0)),
    )

-- a text over zeros, and zeros behind it
pub output_is : (text : List ℕ) (o p : Output) → o.size ≡ 0 → o.bytes ≡ replicate OUTPUT_BYTES 0 → Adds o text p → p.size ≤ OUTPUT_BYTES
    → p ≡ output_of text
unfolding output_of
output_is text o p none zeros added fits =
    let whole : List ℕ → ℕ → Output = λ (b : List ℕ) (n : ℕ). record { bytes = b; size = n } in
    let size : p.size ≡ length text = omega (arith, added.0, none) in
    ap₂ whole
    (added.1 ∙ ap₂ (λ (b : List ℕ) (n : ℕ). sets b n text) zeros none
    ∙ sets_front text (replicate OUTPUT_BYTES 0) (omega (arith, length-replicate {A = ℕ} OUTPUT_BYTES 0)))
    size

-- as many bytes as there is room for are there
pub size_inside : (text : List ℕ) (r : Output) → r ≡ output_of text → r.size ≤ OUTPUT_BYTES → r.size ≤ length r.bytes
unfolding output_of
size_inside text r e short =
    let size : r.size ≡ length text = ap (λ (x : Output). x.size) e in
    omega (arith, ap (λ (x : Output). length x.bytes) e, length-append text (drop (length text) (replicate OUTPUT_BYTES 0)))
