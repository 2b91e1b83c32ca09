-- THEOREMS: the bench program. For which input it prints a frame, and which; and which refusal it prints else.
-- Assumes nothing.
use Rattle.std.specs.Prelude.{◌≡◌, ◌↔◌, List, [], ◌∷◌, ℕ, ◌+◌, ◌<◌, get_or}
use Rattle.std.proofs.Common.{sym, ap, ◌∙◌, arith}
use Rattle.words.specs.Bits.{IsBits}
use Rattle.words.specs.Refusal.{NAME, refused_at, in_turn, Answer, Done}
use Rattle.words.specs.Laws.Digits.{first_is_bit}
use Rattle.frames.specs.Frame.{Contents, frame_of}
use Rattle.frames.specs.Build.{contents_answer}
use Rattle.frames.specs.Built.{built_right, is_built}
use Rattle.frames.specs.Due.{RefusesWith}
use Rattle.frames.specs.Laws.Due.{Verdict, fine, due, refused_by}
use Rattle.sheets.specs.Lines.{lines_in}
use Rattle.sheets.specs.Sheet.{sheet_answer}
use Rattle.sheets.specs.Due.{EndsWith, line_place, UnknownAt, RefusedUpTo, at_its_line, at_a_line_before}
use Rattle.sheets.proofs.Refused.{unknown_refused}
use Rattle.programs.specs.Symbols.{symbols_in, characters_of}
use Rattle.programs.specs.Output.{symbol_line, refusal_text, text_by}
use Rattle.programs.specs.Building.{IsInput, InputFor, first_line, after_first, sheet_contents, input_contents, input_answer, printed_frame}
use Rattle.programs.specs.Due.{RightPageLine, InputDue, PrintedUpTo, printed_at_its_line, printed_before}
use Rattle.programs.specs.Laws.Due.{refuses_is}
use Rattle.programs.proofs.Laws.Building.{starts_there, right_page_on, input_due_refused, input_verdict}
use Rattle.programs.specs.Laws.Inputs.{right_contents}
use Rattle.programs.proofs.Laws.Inputs.{right_done, done_right}
use Rattle.programs.specs.Laws.Lines.{lines_differ}

-- Input is not refused, and has these contents, exactly if it is right for them: their page line, and right after it a sheet of theirs.
pub input_exactly : (c : Contents) (input : List ℕ) → ((input_answer input ≡ Done) × (input_contents input ≡ c)) ↔ IsInput c input
input_exactly c input = (λ h. rw (sym h.1) (done_right input h.0), λ is. (right_done c input is, right_contents c input is))

-- For it the 1800 symbols of the one frame of its contents are printed.
pub frame_printed : (c : Contents) (input : List ℕ) → IsInput c input → printed_frame input ≡ symbol_line (frame_of c)
unfolding printed_frame
frame_printed c input is =
    ap (λ (a : Answer). text_by a (symbol_line (frame_of (input_contents input)))) (right_done c input is)
    ∙ ap (λ (d : Contents). symbol_line (frame_of d)) (right_contents c input is)

refused_text : (input : List ℕ) (n p : ℕ) → input_answer input ≡ refused_at n p → printed_frame input ≡ refusal_text n p
unfolding printed_frame
refused_text input n p e = ap (λ (a : Answer). text_by a (symbol_line (frame_of (input_contents input)))) e

-- a line of symbols is no refusal: its first byte is 0, 1 or a newline
no_refusal : (f : List ℕ) (n p : ℕ) → IsBits f → refusal_text n p ≡ symbol_line f → ⊥
unfolding symbol_line characters_of refusal_text
no_refusal [] n p bits e = let z : ◌≡◌ {A = ℕ} 114 10 = ap (λ (l : List ℕ). get_or l 0 0) e in omega arith
no_refusal (b ∷ f) n p bits e = let z : ◌≡◌ {A = ℕ} 114 (48 + b) = ap (λ (l : List ℕ). get_or l 0 0) e in omega (arith, first_is_bit bits)

-- The program prints symbols exactly if the input is right for some contents and the symbols are the frame of these by IS-GPS-800.
pub bench_exactly : (input f : List ℕ) → IsBits f → (printed_frame input ≡ symbol_line f) ↔ InputFor f input
bench_exactly input f bits = (λ e. to (input_verdict input) e, from)
  where
    to : Verdict (input_answer input) (InputDue input) → printed_frame input ≡ symbol_line f → InputFor f input
    to (fine done) e =
        let is = done_right input done in
        let same = lines_differ (frame_of (input_contents input)) f (sym (frame_printed (input_contents input) input is) ∙ e) in
        record { contents = input_contents input; is_input = is; is_frame = rw (sym same) (built_right (input_contents input) is.good) }
    to (due n p d) e = absurd (no_refusal f n p bits (sym (refused_text input n p (input_due_refused input n p d).0) ∙ e))

    from : InputFor f input → printed_frame input ≡ symbol_line f
    from for = frame_printed for.contents input for.is_input ∙ ap symbol_line (sym (is_built for.contents f for.is_frame))

-- The input is refused with number n at p exactly where that is due.
pub bench_refused_exactly : (input : List ℕ) (n p : ℕ) → RefusesWith (input_answer input) n p ↔ InputDue input n p
bench_refused_exactly input n p = refused_by (input_answer input) (InputDue input) (input_due_refused input) (input_verdict input) n p

-- Then the refusal is printed, and nothing else.
pub refusal_printed : (input : List ℕ) (n p : ℕ) → InputDue input n p → printed_frame input ≡ refusal_text n p
refusal_printed input n p d = refused_text input n p (input_due_refused input n p d).0

-- A sheet with a name that is not on the list prints 12 at the first such line, unless a line before it is refused first.
pub unknown_printed : (input body : List ℕ) (i : ℕ) → RightPageLine input → EndsWith (after_first input) [] body → UnknownAt (lines_in body) i
    → ((j : ℕ) → j < i → UnknownAt (lines_in body) j → ⊥) → PrintedUpTo input (lines_in body) i
unknown_printed input body i right ends unknown first = go (unknown_refused (after_first input) [] body i ends unknown first)
  where
    printed : (n p : ℕ) → RefusesWith (sheet_answer (after_first input)) n p → printed_frame input ≡ refusal_text n p
    printed n p h =
        refused_text input n p
        (right_page_on input right
        ∙ starts_there (symbols_in (first_line input)) (after_first input) body ends
        ∙ ap (λ (a : Answer). in_turn a (contents_answer (sheet_contents (symbols_in (first_line input)) (after_first input))))
        (refuses_is (sheet_answer (after_first input)) n p h))

    go : RefusedUpTo (after_first input) (lines_in body) i → PrintedUpTo input (lines_in body) i
    go (at_its_line h) = printed_at_its_line (printed NAME (line_place (lines_in body) i) h)
    go (at_a_line_before j n b d other h) = printed_before j n b d other (printed n (line_place (lines_in body) j) h)
