-- The input of the way back: what is refused is what is due, and what is not refused is a frame.
-- Assumes nothing.
use Rattle.std.specs.Prelude.{◌≡◌, Bool, List, [], ◌∷◌, ◌++◌, ◌⊎◌, ◌≢◌, ℕ, suc, ◌-◌, eqb, length, get_or, take, Ok}
use Rattle.std.proofs.Common.{sym, ap₂, ◌∙◌, inl, inr, arith, take-append-drop, drop_of_length-le, drop-cons, eq-eqb, ne_eqb, eqb-true}
use Rattle.std.proofs.Math.Path.{ap}
use Rattle.words.specs.Refusal.{LENGTH, refused_at, done_if, in_turn, Answer, Done}
use Rattle.words.specs.Time.{time_read, corrected_read}
use Rattle.words.specs.Laws.Turns.{both_done, test_done}
use Rattle.tables.specs.Laws.Cases.{same_or_not}
use Rattle.frames.specs.Frame.{Contents, FRAME, time_in}
use Rattle.frames.specs.Read.{frame_answer, frame_is, frame_read, contents_in}
use Rattle.frames.specs.Build.{contents_of}
use Rattle.frames.proofs.Reading.{read_exactly}
use Rattle.frames.specs.Due.{FrameDue}
use Rattle.frames.specs.Laws.Due.{Verdict, fine, due}
use Rattle.frames.proofs.Laws.Reading.{done_reads}
use Rattle.frames.proofs.Laws.Verdicts.{frame_due_refused, frame_verdict}
use Rattle.frames.specs.declared.read.Frame.{Frame}
use Rattle.sheets.specs.Text.{LINE_END}
use Rattle.programs.specs.Symbols.{first_other, symbols_in, characters_of, symbols_answer}
use Rattle.programs.specs.Output.{symbol_line}
use Rattle.programs.specs.Reading.{IsFrameLine, frame_line, frame_line_answer, frame_input_answer}
use Rattle.programs.specs.Due.{SymbolsDue, AreCharacters, EndsLine, FrameInputDue, end_due, frame_line_due, frame_due}
use Rattle.programs.specs.Laws.Symbols.{characters_long, characters_all, characters_again, symbols_again, all_at}
use Rattle.programs.specs.Laws.Due.{symbols_due_refused, symbols_verdict, characters_done, done_characters, done_all}
use Rattle.programs.specs.Laws.Lines.{frame_line_is, symbol_line_ends}
use Rattle.words.specs.Laws.Turns.{given_ok}

module _ (input : List ℕ) where
  abbrev symbols : List ℕ
  symbols = symbols_in (frame_line input)

  abbrev by_end : Bool → Answer
  by_end t = in_turn (in_turn (done_if t LENGTH 0) (symbols_answer FRAME (frame_line input))) (frame_answer symbols)

  no_end : (EndsLine input → ⊥) → frame_input_answer input ≡ refused_at LENGTH 0
  unfolding frame_input_answer
  no_end none = ap by_end (ne_eqb (get_or input (length input - 1) 0) LINE_END none)

  ends_on : EndsLine input → frame_input_answer input ≡ in_turn (symbols_answer FRAME (frame_line input)) (frame_answer symbols)
  unfolding frame_input_answer
  ends_on ends = ap by_end (eq-eqb (get_or input (length input - 1) 0) LINE_END ends)

  characters_on : EndsLine input → AreCharacters FRAME (frame_line input) → frame_input_answer input ≡ frame_answer symbols
  characters_on ends are = ends_on ends ∙ ap (λ (a : Answer). in_turn a (frame_answer symbols)) (characters_done FRAME (frame_line input) are)

  -- what is due is refused
  pub frame_input_refused : (n p : ℕ) → FrameInputDue input n p → (frame_input_answer input ≡ refused_at n p) × (n ≢ 0)
  frame_input_refused n p (end_due none) = (no_end none, λ e. omega arith)
  frame_input_refused n p (frame_line_due m q ends d) =
      let is = symbols_due_refused FRAME (frame_line input) m q d in
      (ends_on ends ∙ ap (λ (a : Answer). in_turn a (frame_answer symbols)) is.0, is.1)
  frame_input_refused n p (frame_due m q ends are d) =
      let is = frame_due_refused symbols m q d in
      (characters_on ends are ∙ is.0, is.1)

  -- the input is done, or something is due
  pub frame_input_verdict : Verdict (frame_input_answer input) (FrameInputDue input)
  frame_input_verdict = by_end_there (same_or_not (get_or input (length input - 1) 0) LINE_END)
    where
      by_frame : EndsLine input → AreCharacters FRAME (frame_line input) → Verdict (frame_answer symbols) (FrameDue symbols)
          → Verdict (frame_input_answer input) (FrameInputDue input)
      by_frame ends are (fine e) = fine (characters_on ends are ∙ e)
      by_frame ends are (due n p d) = due n p (frame_due n p ends are d)

      by_symbols : EndsLine input → Verdict (symbols_answer FRAME (frame_line input)) (SymbolsDue FRAME (frame_line input))
          → Verdict (frame_input_answer input) (FrameInputDue input)
      by_symbols ends (fine e) = by_frame ends (done_characters FRAME (frame_line input) e) (frame_verdict symbols)
      by_symbols ends (due n p d) = due n p (frame_line_due n p ends d)

      by_end_there : (get_or input (length input - 1) 0 ≡ LINE_END) ⊎ (get_or input (length input - 1) 0 ≢ LINE_END)
          → Verdict (frame_input_answer input) (FrameInputDue input)
      by_end_there (inl ends) = by_symbols ends (symbols_verdict FRAME (frame_line input))
      by_end_there (inr none) = due LENGTH 0 (end_due none)

-- ---- what is read

-- the contents of what is read
abbrev pub contents_read : Frame → Contents
contents_read x = contents_of x.toi x.counts x.page

-- symbols that are read as contents are done, and stand for these
pub read_is : (f : List ℕ) (c : Contents) (places : ℕ) → frame_read f ≡ Ok (frame_is c places)
    → (frame_answer f ≡ Done) × (contents_in f ≡ c) × (corrected_read (time_read (time_in f)) ≡ places)
read_is f c places e =
    let found = frame_is (contents_in f) (corrected_read (time_read (time_in f))) in
    let given = given_ok (frame_answer f) found (frame_is c places) e in
    let same : found ≡ frame_is c places = sym given.1 in
    (given.0, ap contents_read same, ap (λ (x : Frame). x.corrected) same)

-- ---- a frame in the input

module _ (c : Contents) (places : ℕ) (input : List ℕ) (is : IsFrameLine c places input) where
  line : frame_line input ≡ characters_of is.symbols
  line = ap frame_line is.text ∙ frame_line_is is.symbols

  pub symbols_are : symbols_in (frame_line input) ≡ is.symbols
  symbols_are = ap symbols_in line ∙ symbols_again is.symbols

  pub reads : frame_read is.symbols ≡ Ok (frame_is c places)
  reads = (read_exactly is.symbols c places).1 (is.good, is.readable)

  pub reads_done : frame_input_answer input ≡ Done
  reads_done =
      characters_on input (ap (λ (l : List ℕ). get_or l (length l - 1) 0) is.text ∙ symbol_line_ends is.symbols)
      (rw line (record {
        long = characters_long is.symbols ∙ is.readable.carries.long;
        each = λ k inside. all_at (characters_of is.symbols) k (characters_all is.symbols is.readable.carries.bits) inside;
      }))
      ∙ ap frame_answer symbols_are
      ∙ (read_is is.symbols c places reads).0

-- a text whose last byte is a newline is what stands before it, and the newline
last_cut : (text : List ℕ) → EndsLine text → text ≡ frame_line text ++ LINE_END ∷ []
unfolding frame_line
last_cut [] ends = absurd (let z : ◌≡◌ {A = ℕ} 0 10 = ends in omega arith)
last_cut (b ∷ l) ends =
    let n = length (b ∷ l) - 1 in
    sym (take-append-drop n (b ∷ l))
    ∙ ap (λ (m : List ℕ). take n (b ∷ l) ++ m)
    (drop-cons (b ∷ l) n 0 (omega arith) ∙ ap₂ (λ (x : ℕ) (m : List ℕ). x ∷ m) ends (drop_of_length-le (b ∷ l) {i = suc n} (omega arith)))

-- what is done is a frame
pub done_reads_as : (input : List ℕ) → frame_input_answer input ≡ Done
    → IsFrameLine (contents_in (symbols_in (frame_line input))) (corrected_read (time_read (time_in (symbols_in (frame_line input))))) input
unfolding frame_input_answer symbol_line
done_reads_as input e =
    let f = symbols_in (frame_line input) in
    let ends = done_if (eqb (get_or input (length input - 1) 0) LINE_END) LENGTH 0 in
    let both = both_done (frame_line_answer input) (frame_answer f) e in
    let line = both_done ends (symbols_answer FRAME (frame_line input)) both.0 in
    let newline = eqb-true (get_or input (length input - 1) 0) LINE_END (test_done (eqb (get_or input (length input - 1) 0) LINE_END) LENGTH 0 line.0) in
    let read = done_reads f both.1 in
    record {
      symbols = f;
      text = last_cut input newline ∙ whole (frame_line input) (done_all FRAME (frame_line input) line.1).1;
      good = read.0;
      readable = read.1;
    }
  where
    whole : (l : List ℕ) → first_other l ≡ length l → l ++ LINE_END ∷ [] ≡ symbol_line (symbols_in l)
    whole l all = ap (λ (m : List ℕ). m ++ LINE_END ∷ []) (sym (characters_again l all))
