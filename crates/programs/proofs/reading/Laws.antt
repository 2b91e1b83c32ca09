-- The input of the reading program, judged part by part, and what is printed for it.
-- Assumes nothing.
use mathlib.Core.Path.{◌≡◌, refl, sym, ap, ◌∙◌}
use mathlib.Core.List.{List}
use Prim.Native.Nat.{ℕ, ◌-◌, ◌≤◌}
use lib.ListN.{length, get_or, take}
use borrow.Author.Tests.{eq-eqb}
use Rattle.words.specs.Time.{time_read, corrected_read}
use Rattle.words.specs.declared.refusal.Refusal.{Refusal}
use Rattle.frames.specs.Frame.{GoodContents, FRAME, time_in}
use Rattle.frames.specs.Read.{frame_answer, contents_in, frame_is, frame_read}
use Rattle.frames.proofs.Reading.{read_exactly}
use Rattle.frames.specs.declared.read.Frame.{Frame}
use Rattle.sheets.specs.Text.{LINE_END}
use Rattle.programs.specs.Symbols.{symbols_in, symbols_answer}
use Rattle.programs.specs.Output.{refusal_text}
use Rattle.programs.specs.Reading.{contents_text, frame_line, frame_line_answer, frame_input_answer, printed_sheet}
use Rattle.programs.specs.Laws.Reading.{contents_read, read_is}
use Rattle.words.specs.Refusal.{Answer, answer_of, given_by, in_turn}
use Rattle.std.specs.Prelude.{Result, Ok, Err}
use Rattle.words.specs.Laws.Turns.{not_done, given_answer}

-- ---- the line of symbols

pub line_taken : (input : List ℕ) → get_or input (length input - 1) 0 ≡ LINE_END
    → given_by (symbols_answer FRAME (take (length input - 1) input)) (symbols_in (take (length input - 1) input))
    ≡ given_by (frame_line_answer input) (symbols_in (frame_line input))
unfolding frame_line
line_taken input ends = rw (eq-eqb (get_or input (length input - 1) 0) LINE_END ends) refl

-- ---- the input

turn_answer : {A : Type 0} (a : Answer) (x : Result A Refusal) → answer_of (in_turn a x) ≡ in_turn a (answer_of x)
turn_answer (Ok _) x = refl
turn_answer (Err r) x = refl

turn_ok : {A : Type 0} (a : Answer) (x : Result A Refusal) (y : A) → in_turn a x ≡ Ok y → x ≡ Ok y
turn_ok (Ok _) x y e = e
turn_ok (Err r) x y e = absurd (not_done r.number r.place (ap answer_of e))

module _ (input : List ℕ) where
  abbrev symbols : List ℕ
  symbols = symbols_in (frame_line input)

  -- what is read of it
  abbrev pub input_read : Result Frame Refusal
  input_read = in_turn (frame_line_answer input) (frame_read symbols)

  answered : answer_of input_read ≡ frame_input_answer input
  unfolding frame_input_answer
  answered =
      turn_answer (frame_line_answer input) (frame_read symbols)
      ∙ ap (in_turn (frame_line_answer input))
      (given_answer (frame_answer symbols) (frame_is (contents_in symbols) (corrected_read (time_read (time_in symbols)))))

  -- what is refused is printed as that refusal
  pub refusal_printed : (r : Refusal) → input_read ≡ Err r → refusal_text r.number r.place ≡ printed_sheet input
  unfolding printed_sheet
  refusal_printed r e = rw (sym answered ∙ ap answer_of e) refl

  module _ (x : Frame) (read : input_read ≡ Ok x) where
    of_symbols : frame_read symbols ≡ Ok x
    of_symbols = turn_ok (frame_line_answer input) (frame_read symbols) x read

    -- what is read is good, and at most nine symbols are corrected
    pub read_good : (x.corrected ≤ 9) × GoodContents (contents_read x)
    read_good = let right = (read_exactly symbols (contents_read x) x.corrected).0 of_symbols in (right.1.time.near, right.0)

    pub sheet_printed : contents_text (contents_read x) x.corrected ≡ printed_sheet input
    unfolding printed_sheet
    sheet_printed =
        let is = read_is symbols (contents_read x) x.corrected of_symbols in
        rw (sym answered ∙ ap answer_of read, is.1, is.2) refl
