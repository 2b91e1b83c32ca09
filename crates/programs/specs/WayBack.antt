-- THEOREMS: the way back. What is printed for which frame, and which refusal else.
-- Assumes nothing.
use Rattle.std.specs.Prelude.{◌≡◌, ◌↔◌, List, ℕ, get_or}
use Rattle.std.proofs.Common.{sym, ap, ap₂, ◌∙◌, subst, arith}
use Rattle.words.specs.Refusal.{refused_at, Answer, Done}
use Rattle.words.specs.Time.{time_read, corrected_read}
use Rattle.frames.specs.Frame.{Contents, GoodContents, time_in}
use Rattle.frames.specs.Read.{contents_in}
use Rattle.frames.specs.Due.{RefusesWith}
use Rattle.frames.specs.Laws.Due.{Verdict, fine, due, refused_by}
use Rattle.programs.specs.Symbols.{symbols_in}
use Rattle.programs.specs.Output.{refusal_text, text_by}
use Rattle.programs.specs.Reading.{IsFrameLine, contents_text, frame_line, frame_input_answer, printed_sheet}
use Rattle.programs.specs.Due.{FrameInputDue}
use Rattle.programs.specs.Laws.Reading.{frame_input_refused, frame_input_verdict, read_is, symbols_are, reads, reads_done, done_reads_as}
use Rattle.programs.specs.Laws.Texts.{texts_differ}

-- ---- good input

-- the input is not refused, and these contents and so many time symbols corrected stand in its symbols
abbrev pub DoneWith : Contents → ℕ → List ℕ → Type 0
DoneWith c places input =
    (frame_input_answer input ≡ Done)
    × (contents_in (symbols_in (frame_line input)) ≡ c)
    × (corrected_read (time_read (time_in (symbols_in (frame_line input)))) ≡ places)

-- That is so exactly if the input is the symbols of a frame that stands for these contents, with so many of its time symbols to correct.
pub line_exactly : (c : Contents) (places : ℕ) (input : List ℕ) → DoneWith c places input ↔ IsFrameLine c places input
line_exactly c places input = (to, from)
  where
    to : DoneWith c places input → IsFrameLine c places input
    to h =
        let f = symbols_in (frame_line input) in
        subst (λ (x : Contents). IsFrameLine x places input) h.1
        (subst (λ (k : ℕ). IsFrameLine (contents_in f) k input) h.2 (done_reads_as input h.0))

    from : IsFrameLine c places input → DoneWith c places input
    from is =
        let same = symbols_are c places input is in
        let read = read_is is.symbols c places (reads c places input is) in (
          reads_done c places input is,
          ap contents_in same ∙ read.1,
          ap (λ (l : List ℕ). corrected_read (time_read (time_in l))) same ∙ read.2,
        )

-- ---- what is printed

abbrev when_done : List ℕ → List ℕ
when_done input = contents_text (contents_in (symbols_in (frame_line input))) (corrected_read (time_read (time_in (symbols_in (frame_line input)))))

-- For the symbols of a frame that is read, its contents are printed, with the number of symbols corrected.
pub sheet_printed : (c : Contents) (places : ℕ) (input : List ℕ) → IsFrameLine c places input → printed_sheet input ≡ contents_text c places
unfolding printed_sheet
sheet_printed c places input is =
    let h = (line_exactly c places input).1 is in
    ap (λ (a : Answer). text_by a (when_done input)) h.0 ∙ ap₂ contents_text h.1 h.2

refused_text : (input : List ℕ) (n p : ℕ) → frame_input_answer input ≡ refused_at n p → printed_sheet input ≡ refusal_text n p
unfolding printed_sheet
refused_text input n p e = ap (λ (a : Answer). text_by a (when_done input)) e

-- what is printed for contents is no refusal: its first letter is another
no_refusal : (c : Contents) (places n p : ℕ) → refusal_text n p ≡ contents_text c places → ⊥
unfolding refusal_text contents_text
no_refusal c places n p e = let z : ◌≡◌ {A = ℕ} 114 99 = ap (λ (l : List ℕ). get_or l 0 0) e in omega arith

-- Good contents are printed exactly if the input is the symbols of a frame that stands for them, with so many time symbols corrected.
pub sheet_exactly : (c : Contents) (places : ℕ) (input : List ℕ) → GoodContents c → (printed_sheet input ≡ contents_text c places) ↔ IsFrameLine c places input
sheet_exactly c places input good = (λ e. to (frame_input_verdict input) e, sheet_printed c places input)
  where
    to : Verdict (frame_input_answer input) (FrameInputDue input) → printed_sheet input ≡ contents_text c places → IsFrameLine c places input
    to (fine done) e =
        let f = symbols_in (frame_line input) in
        let is = done_reads_as input done in
        let same = texts_differ (contents_in f) c (corrected_read (time_read (time_in f))) places is.good good
        (sym (sheet_printed (contents_in f) (corrected_read (time_read (time_in f))) input is) ∙ e) in
        subst (λ (x : Contents). IsFrameLine x places input) same.0 (subst (λ (k : ℕ). IsFrameLine (contents_in f) k input) same.1 is)
    to (due n p d) e = absurd (no_refusal c places n p (sym (refused_text input n p (frame_input_refused input n p d).0) ∙ e))

-- The input is refused with number n at p exactly where that is due.
pub way_back_refused_exactly : (input : List ℕ) (n p : ℕ) → RefusesWith (frame_input_answer input) n p ↔ FrameInputDue input n p
way_back_refused_exactly input n p =
    refused_by (frame_input_answer input) (FrameInputDue input) (frame_input_refused input) (frame_input_verdict input) n p

-- Then the refusal is printed, and nothing else.
pub refusal_printed : (input : List ℕ) (n p : ℕ) → FrameInputDue input n p → printed_sheet input ≡ refusal_text n p
refusal_printed input n p d = refused_text input n p (frame_input_refused input n p d).0
