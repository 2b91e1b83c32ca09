-- The parts of a frame, put one after another.
-- Assumes nothing.
use mathlib.Core.Path.{◌≡◌, refl, sym, ap, ap₂, ◌∙◌}
use mathlib.Core.Bool.{true, ◌&&◌, and-eq-true_iff}
use mathlib.Core.List.{List, ◌++◌, append-nil}
use Prim.Native.Nat.{ℕ, ◌-◌, ◌≤◌}
use native.Mathlib.Omega.{arith}
use lib.Dec.{eqb}
use lib.IntN.{ℤ}
use lib.ListN.{length, take, drop, length-append, length-drop, drop_of_length-le}
use lib.Seq.{take_at, length-take-le}
use borrow.Author.Tests.{eqb-true, eq-eqb, le-leb}
use Rattle.words.specs.Bits.{IsBits, first_not_bit}
use Rattle.words.specs.Time.{time_word, time_answer, time_bytes}
use Rattle.words.specs.Refusal.{FIELD_2, in_turn, left_by, Answer, Done}
use Rattle.words.specs.declared.refusal.Refusal.{Refusal}
use Rattle.words.specs.Laws.Turns.{test_done}
use Rattle.words.specs.Laws.Words.{word_length}
use Rattle.parity.specs.InOrder.{interleave_done}
use Rattle.parity.specs.Order.{interleaved, interleave_answer, interleave_bytes}
use Rattle.fields.specs.Table.{fields_in}
use Rattle.fields.specs.Counts.{first_out}
use Rattle.fields.specs.FieldsBack.{length_bits2}
use Rattle.fields.specs.Subframe2.{bits2, counts_answer, fields_written, fields_bytes}
use Rattle.fields.specs.Pages.{range_answer}
use Rattle.fields.specs.Laws.Table.{count_subframe2}
use Rattle.fields.specs.declared.table.Table.TheVariants.{Subframe2}
use Rattle.frames.specs.Build.{contents_of, build_lengths, build_answer, build_bytes}
use Rattle.frames.specs.Frame.{Contents, frame_of}
use Rattle.frames.specs.Laws.Steps.{symbols_from}
use Rattle.std.specs.Prelude.{Err}

-- ---- the page in front of the block of subframe 3

module _ (page three d : List ℕ) (long : length page ≡ 250) (wide : length three ≡ 548) (copied_is : d ≡ page) where
  pub page_in_front : take 250 (d ++ drop 250 three) ≡ page
  page_in_front = take_at d (drop 250 three) 250 (ap length copied_is ∙ long) ∙ copied_is

  pub still_548 : length (d ++ drop 250 three) ≡ 548
  still_548 = length-append d (drop 250 three) ∙ omega (arith, length-drop 250 three, ap length copied_is)

-- ---- the time in front of the frame, and the blocks in order behind it

module _
    (toi : ℕ)
    (b2 b3 f t o : List ℕ)
    (long : length f ≡ 1800)
    (used : toi ≤ 399)
    (timed : t ≡ time_bytes (take 52 f) toi) where
  word_put : t ≡ time_word toi
  word_put = timed ∙ rw (eq-eqb (length (take 52 f)) 52 (length-take-le 52 f (omega arith)), le-leb toi 399 used) refl

  pub word_fits : time_answer (take 52 f) toi ≡ Done
  word_fits = rw (eq-eqb (length (take 52 f)) 52 (length-take-le 52 f (omega arith)), le-leb toi 399 used) refl

  word_52 : length t ≡ 52
  word_52 = ap length word_put ∙ word_length toi

  -- the bytes with the word put
  abbrev with_word : List ℕ
  with_word = t ++ drop 52 f

  with_word_1800 : length with_word ≡ 1800
  with_word_1800 = length-append t (drop 52 f) ∙ omega (arith, length-drop 52 f, word_52)

  behind_long : length (take (length with_word - 52) (drop 52 with_word)) ≡ 1748
  behind_long =
      length-take-le (length with_word - 52) (drop 52 with_word) (omega (arith, length-drop 52 with_word)) ∙ omega (arith, with_word_1800)

  pub symbols_fit : length b2 ≡ 1200 → IsBits b2 → length b3 ≡ 548 → IsBits b3
      → interleave_answer b2 b3 (take (length with_word - 52) (drop 52 with_word)) ≡ Done
  symbols_fit l2 are2 l3 are3 =
      (interleave_done b2 b3 (take (length with_word - 52) (drop 52 with_word)) (record { two = l2; three = l3; both = behind_long }) are2 are3).0

  pub symbols_put : length b2 ≡ 1200 → IsBits b2 → length b3 ≡ 548 → IsBits b3
      → o ≡ interleave_bytes b2 b3 (take (length with_word - 52) (drop 52 with_word))
      → take 52 with_word ++ (o ++ drop (length with_word - 52) (drop 52 with_word)) ≡ time_word toi ++ interleaved (b2 ++ b3)
  symbols_put l2 are2 l3 are3 e =
      let behind = drop 52 with_word in
      let count : length behind ≡ 1748 = length-drop 52 with_word ∙ omega (arith, with_word_1800) in
      let ordered : o ≡ interleaved (b2 ++ b3) =
      e ∙ (interleave_done b2 b3 (take (length with_word - 52) behind) (record { two = l2; three = l3; both = behind_long }) are2 are3).1 in
      rw (
        drop_of_length-le behind {i = length with_word - 52} (omega (arith, with_word_1800)),
        append-nil o,
        take_at t (drop 52 f) 52 word_52,
      ) (ap₂ (λ (x y : List ℕ). x ++ y) word_put ordered)

-- ---- the fields in front of the block of subframe 2

module _ (zs : List ℤ) (two : List ℕ) (many : length zs ≡ 33) (wide : length two ≡ 1200) where
  part_576 : length (take 576 two) ≡ 576
  part_576 = length-take-le 576 two (omega arith)

  pub written_answer : fields_written zs (take 576 two) ≡ counts_answer zs
  written_answer = rw (eq-eqb (length zs) 33 many, eq-eqb (length (take 576 two)) 576 part_576) refl

  pub fields_in_front : (d : List ℕ) → d ≡ fields_bytes zs (take 576 two) → counts_answer zs ≡ Done
      → take 576 (d ++ drop 576 two) ≡ bits2 zs
  fields_in_front d e done =
      let out = first_out 0 (fields_in Subframe2) zs in
      let put : d ≡ bits2 zs =
      e ∙ rw (eq-eqb (length zs) 33 many, eq-eqb (length (take 576 two)) 576 part_576, test_done (eqb out 0) FIELD_2 out done) refl in
      take_at d (drop 576 two) 576 (ap length put ∙ length_bits2 zs (many ∙ sym count_subframe2)) ∙ put

-- ---- two judgements in turn: what is answered, and what is left in the frame

module _ (a b x : Answer) (new out f : List ℕ) where
  pub second_refused : (r : Refusal) → a ≡ Done → b ≡ Err r → x ≡ Err r → out ≡ f
      → (x ≡ in_turn a b) × (out ≡ left_by (in_turn a b) new f)
  second_refused r e g h same = rw (e, g) (h, same)

  pub none_refused : a ≡ Done → b ≡ Done → x ≡ Done → out ≡ new → (x ≡ in_turn a b) × (out ≡ left_by (in_turn a b) new f)
  none_refused e g h same = rw (e, g) (h, same)

-- ---- building judged: the lengths, the page bits, the time, and then the counts and the page

module _ (toi : ℕ) (zs : List ℤ) (page f : List ℕ) where
  abbrev contents : Contents
  contents = contents_of toi zs page

  pub right_sizes : build_lengths contents f ≡ true → (length zs ≡ 33) × (length page ≡ 250) × (length f ≡ 1800)
  right_sizes e =
      let one = (and-eq-true_iff (eqb (length zs) 33) (eqb (length page) 250 && eqb (length f) 1800)).0 e in
      let two = (and-eq-true_iff (eqb (length page) 250) (eqb (length f) 1800)).0 one.1 in
      (eqb-true (length zs) 33 one.0, eqb-true (length page) 250 two.0, eqb-true (length f) 1800 two.1)

  -- what is answered, and what the frame is left as
  abbrev pub Built : Answer → List ℕ → Type 0
  Built x out = (x ≡ build_answer contents f) × (out ≡ build_bytes contents f)

  module _ (x : Answer) (sizes : build_lengths contents f ≡ true) where
    module _ (bits : first_not_bit page ≡ length page) where
      pub all_judged : (out : List ℕ) → toi ≤ 399 → x ≡ in_turn (counts_answer zs) (range_answer page)
          → out ≡ left_by (in_turn (counts_answer zs) (range_answer page)) (symbols_from toi (bits2 zs) page) f → Built x out
      unfolding frame_of
      all_judged out e g h = rw (sizes, eq-eqb (first_not_bit page) (length page) bits, le-leb toi 399 e) (g, h)
