-- The input of the bench program, judged part by part.
-- Assumes nothing.
use mathlib.Core.Bool.{true}
use mathlib.Core.Path.{◌≡◌, refl, sym, ap, ap₂, ◌∙◌, subst}
use mathlib.Core.List.{List}
use Prim.Native.Nat.{ℕ, ◌+◌, ◌≤◌, ◌<◌}
use native.Mathlib.Omega.{arith}
use lib.Dec.{eqb}
use lib.IntN.{ℤ, pos}
use lib.ListN.{length, get_or, drop, length-drop}
use Rattle.std.proofs.lemmas.List.{drop-drop}
use lib.Signed.{mag, non_neg}
use lib.Dec.{T}
use lib.IntN.{nat_abs, negsuc}
use mir.Syntax.{w16, w64}
use mir.Val.{to_z, of_z, Fits}
use Rattle.std.proofs.lemmas.Int.{to_z_pos}
use borrow.Author.Tests.{lt-ltb, le-ltb, le-leb, lt-leb, eq-eqb, ne_eqb}
use Rattle.words.specs.Bits.{IsBits, first_not_bit}
use Rattle.words.specs.Refusal.{LENGTH, TRAILER, refused_at, given_by, left_by, Answer, Done, answer_of}
use Rattle.words.specs.Time.{LAST_TOI}
use Rattle.words.specs.Laws.Digits.{bits_none}
use Rattle.words.specs.Laws.Turns.{given_answer, given_ok, judged_on}
use Rattle.words.specs.declared.refusal.Refusal.{Refusal}
use Rattle.fields.specs.Subframe2.{COUNTS_2}
use Rattle.fields.specs.Pages.{PAGE_BITS}
use Rattle.frames.specs.Frame.{Contents, FRAME, frame_of}
use Rattle.frames.specs.Build.{contents_of, build_lengths, contents_answer, build_answer}
use Rattle.frames.specs.Built.{built_right}
use Rattle.sheets.specs.Text.{LINE_END, index_of}
use Rattle.fields.specs.Counts.{AllInRange}
use Rattle.sheets.specs.List.{sheet_fields}
use Rattle.sheets.specs.Trailer.{start_of}
use Rattle.sheets.specs.Sheet.{sheet_read}
use Rattle.sheets.proofs.Reading.{read_exactly}
use Rattle.sheets.specs.Laws.Lengths.{range_good}
use Rattle.programs.specs.Symbols.{symbols_in, symbols_answer}
use Rattle.programs.specs.Output.{symbol_line, refusal_text}
use Rattle.programs.specs.Building.{MOST_INPUT, first_line, after_first, carried_contents, sheet_contents, behind_answer, input_contents, input_answer, printed_frame}
use Rattle.programs.specs.Laws.Symbols.{every_bit}
use Rattle.programs.specs.Laws.Due.{done_all}
use Rattle.programs.specs.Laws.Building.{first_time, first_number, read_answer}
use Rattle.programs.proofs.Laws.Inputs.{done_right}
use Rattle.std.specs.Prelude.{◌∷◌, Result, Err, Ok}
use Rattle.sheets.specs.declared.sheet.Sheet.{Sheet}

-- ---- answers

-- what is refused has that answer
refused_is : {A : Type 0} (a : Answer) (x : A) (r : Refusal) → given_by a x ≡ Err r → a ≡ Err r
refused_is a x r e = sym (given_answer a x) ∙ ap answer_of e

-- what is answered, and what is left in lent bytes by it
abbrev pub Leaves : Answer → List ℕ → List ℕ → Answer → List ℕ → Type 0
Leaves a new old x out = (x ≡ a) × (out ≡ left_by a new old)

-- ---- the page line

-- what stands behind the first newline
module _ (input rest : List ℕ) (end : ℕ) (found : end ≡ index_of LINE_END input) (cut : rest ≡ drop end input) where
  pub behind_is : (x : ℕ) (behind : List ℕ) → rest ≡ x ∷ behind → (index_of LINE_END input < length input) × (behind ≡ after_first input)
  unfolding after_first
  behind_is x behind e = (
    omega (arith, found, ap length cut, ap length e, length-drop end input),
    ap (drop 1) (sym e ∙ cut) ∙ drop-drop 1 end input ∙ ap (λ (k : ℕ). drop (k + 1) input) found,
  )

-- ---- building

-- what is lent rightly is judged by the contents
build_on : (c : Contents) (f : List ℕ) → length c.counts ≡ COUNTS_2 → length c.page ≡ PAGE_BITS → IsBits c.page
    → length f ≡ FRAME → build_answer c f ≡ contents_answer c
build_on c f counts long bits whole =
    let none = first_not_bit c.page in
    judged_on (build_lengths c f) (eqb none (length c.page)) none (contents_answer c)
    (rw (eq-eqb (length c.counts) COUNTS_2 counts, eq-eqb (length c.page) PAGE_BITS long, eq-eqb (length f) FRAME whole) refl)
    (eq-eqb none (length c.page) (bits_none c.page bits))

-- the time among the numbers of a sheet
module _ (zs : List ℤ) (range : AllInRange sheet_fields zs) where
  pub first_cast : to_z w64 (of_z w64 (get_or zs 0 (pos 0))) ≡ pos (mag (get_or zs 0 (pos 0)))
  first_cast = go (get_or zs 0 (pos 0)) (first_number zs range) (first_time zs range)
    where
      go : (z : ℤ) → non_neg z ≡ true → mag z ≤ LAST_TOI → to_z w64 (of_z w64 z) ≡ pos (mag z)
      go (pos n) e h = to_z_pos w64 n (omega arith)
      go (negsuc n) e h = absurd (let c : ◌≡◌ {A = ℕ} 0 1 = cc in omega arith)

  pub first_fits : T (non_neg (to_z w64 (of_z w64 (get_or zs 0 (pos 0))))) × Fits w16 (nat_abs (to_z w64 (of_z w64 (get_or zs 0 (pos 0)))))
  first_fits = rw first_cast (tt, record { fits = omega (arith, first_time zs range) })

  -- and all of them with a page
  module _ (page f : List ℕ) (long : length page ≡ PAGE_BITS) (bits : IsBits page) (whole : length f ≡ FRAME) where
    carried_on : build_answer (carried_contents zs page) f ≡ contents_answer (carried_contents zs page)
    carried_on = build_on (carried_contents zs page) f (omega (arith, (range_good zs range).0, length-drop 1 zs)) long bits whole

    -- their frame, as it is built of the time and the counts
    pub numbers_built : (toi : ℕ) (counts : List ℤ) (x : Answer) (out : List ℕ)
        → toi ≡ nat_abs (to_z w64 (of_z w64 (get_or zs 0 (pos 0)))) → counts ≡ drop 1 zs
        → Leaves (build_answer (contents_of toi counts page) f) (frame_of (contents_of toi counts page)) f x out
        → Leaves (contents_answer (carried_contents zs page)) (frame_of (carried_contents zs page)) f x out
    numbers_built toi counts x out time others h =
        subst (λ (a : Answer). Leaves a (frame_of (carried_contents zs page)) f x out) carried_on
        (subst (λ (c : Contents). Leaves (build_answer c f) (frame_of c) f x out)
        (ap₂ (λ (t : ℕ) (l : List ℤ). contents_of t l page) (time ∙ ap nat_abs first_cast) others) h)

-- ---- the sheet behind the page line

-- the numbers of a sheet that is read are in range
pub read_range : (bytes : List ℕ) (sheet : Sheet) → sheet_read bytes ≡ Ok sheet → AllInRange sheet_fields sheet.numbers
read_range bytes sheet e = ((read_exactly bytes sheet.numbers sheet.before).0 e).is_sheet.within_range

module _ (page bytes f : List ℕ) (x : Answer) where
  -- the frame of the sheet
  abbrev pub BehindBuilt : List ℕ → Type 0
  BehindBuilt out = Leaves (behind_answer page bytes) (frame_of (sheet_contents page bytes)) f x out

  pub begins_later : (start_of bytes ≡ 0 → ⊥) → x ≡ refused_at TRAILER 0 → BehindBuilt f
  begins_later e g = rw (ne_eqb (start_of bytes) 0 e) (g, refl)

  module _ (begins : start_of bytes ≡ 0) where
    pub sheet_refused : (r : Refusal) → sheet_read bytes ≡ Err r → x ≡ Err r → BehindBuilt f
    sheet_refused r e g = rw (eq-eqb (start_of bytes) 0 begins, sym (read_answer bytes) ∙ ap answer_of e) (g, refl)

    pub sheet_built : (sheet : Sheet) (out : List ℕ) → sheet_read bytes ≡ Ok sheet
        → Leaves (contents_answer (carried_contents sheet.numbers page)) (frame_of (carried_contents sheet.numbers page)) f x out → BehindBuilt out
    sheet_built sheet out e h = rw (eq-eqb (start_of bytes) 0 begins, sym (read_answer bytes) ∙ ap answer_of e, e) h

-- ---- the input

module _ (input f : List ℕ) (x : Answer) where
  -- the frame of the input
  abbrev pub InputBuilt : List ℕ → Type 0
  InputBuilt out = Leaves (input_answer input) (frame_of (input_contents input)) f x out

  pub too_long : MOST_INPUT < length input → x ≡ refused_at LENGTH 0 → InputBuilt f
  unfolding input_answer
  too_long h g = rw (lt-leb (length input) MOST_INPUT h) (g, refl)

  module _ (short : length input ≤ MOST_INPUT) where
    pub no_newline : index_of LINE_END input ≡ length input → x ≡ refused_at LENGTH 0 → InputBuilt f
    unfolding input_answer
    no_newline e g =
        rw (le-leb (length input) MOST_INPUT short, le-ltb (index_of LINE_END input) (length input) (omega (arith, e))) (g, refl)

    module _ (newline : index_of LINE_END input < length input) (line : List ℕ) (first : line ≡ first_line input) where
      -- the page bits in it
      abbrev pub line_symbols : Result (List ℕ) Refusal
      line_symbols = given_by (symbols_answer PAGE_BITS line) (symbols_in line)

      pub line_refused : (r : Refusal) → line_symbols ≡ Err r → x ≡ Err r → InputBuilt f
      unfolding input_answer
      line_refused r e g =
          rw (
            le-leb (length input) MOST_INPUT short,
            lt-ltb (index_of LINE_END input) (length input) newline,
            sym first,
            refused_is (symbols_answer PAGE_BITS line) (symbols_in line) r e,
          ) (g, refl)

      line_on : symbols_answer PAGE_BITS (first_line input) ≡ Done
          → input_answer input ≡ behind_answer (symbols_in (first_line input)) (after_first input)
      unfolding input_answer
      line_on e = rw (le-leb (length input) MOST_INPUT short, lt-ltb (index_of LINE_END input) (length input) newline, e) refl

      pub line_taken : (behind page out : List ℕ) → behind ≡ after_first input → line_symbols ≡ Ok page
          → Leaves (behind_answer page behind) (frame_of (sheet_contents page behind)) f x out → InputBuilt out
      unfolding input_contents
      line_taken behind page out after e h =
          let given = given_ok (symbols_answer PAGE_BITS line) (symbols_in line) page e in
          subst (λ (a : Answer). Leaves a (frame_of (input_contents input)) f x out)
          (sym (line_on (ap (symbols_answer PAGE_BITS) (sym first) ∙ given.0)))
          (rw (given.1 ∙ ap symbols_in first, after) at h)

-- symbols that are taken are bits
pub taken_bits : (line page : List ℕ) → given_by (symbols_answer PAGE_BITS line) (symbols_in line) ≡ Ok page → IsBits page
taken_bits line page e =
    let given = given_ok (symbols_answer PAGE_BITS line) (symbols_in line) page e in
    subst IsBits (sym given.1) (every_bit line (done_all PAGE_BITS line given.0).1)

-- ---- what is printed

module _ (input : List ℕ) where
  pub refusal_printed : (r : Refusal) → input_answer input ≡ Err r → refusal_text r.number r.place ≡ printed_frame input
  unfolding printed_frame
  refusal_printed r e = rw e refl

  module _ (built : input_answer input ≡ Done) (f out : List ℕ) (left : out ≡ left_by (input_answer input) (frame_of (input_contents input)) f) where
    given : out ≡ frame_of (input_contents input)
    given = left ∙ ap (λ (a : Answer). left_by a (frame_of (input_contents input)) f) built

    -- the frame of an input that is done is bits
    pub frame_bits : IsBits out
    frame_bits = subst IsBits (sym given) (built_right (input_contents input) (done_right input built).good).carries.bits

    pub frame_printed : symbol_line out ≡ printed_frame input
    unfolding printed_frame
    frame_printed = rw (built, given) refl
