-- What a frame has that is done.
-- Assumes nothing.
use Rattle.std.specs.Prelude.{◌≡◌, refl, ℕ, ℤ, Ok}
use Rattle.std.proofs.Math.Path.{ap, ap₂}
use Rattle.std.proofs.Common.{◌∙◌}
use mathlib.Core.List.{List}
use Rattle.words.specs.Refusal.{in_turn, Answer, Done, answer_of, given_by}
use Rattle.words.specs.Time.{time_is, time_read, toi_read, corrected_read}
use Rattle.words.specs.Laws.Digits.{bits_take}
use Rattle.words.specs.Laws.Turns.{both_done}
use Rattle.tables.specs.declared.matrix.Subframe.{Subframe}
use Rattle.tables.specs.declared.matrix.Subframe.TheVariants.{Two, Three}
use Rattle.frames.specs.Frame.{Contents, GoodContents, time_in, subframe_in, bits_before, bits_in, ReadableAs}
use Rattle.frames.specs.Read.{ranges_answer, subframe_answer, frame_answer, contents_in, frame_is, frame_read}
use Rattle.frames.specs.Laws.Blocks.{subframe_length, subframe_bits, bits_length}
use Rattle.frames.specs.Laws.Good.{fields_done, done_fields, counts_are, page_done, done_page}
use Rattle.frames.specs.Laws.Reading.{done_is, is_done_lem, IsDone, Parts, lent_on, lent_done, time_is_lem, time_found}

-- the answers of the time and of both subframes, in turn
pub inner : List ℕ → Answer
inner f =
    in_turn (answer_of (time_read (time_in f))) (in_turn (subframe_answer Two (subframe_in Two f)) (subframe_answer Three (subframe_in Three f)))

module _ (c : Contents) (places : ℕ) (f : List ℕ) (good : GoodContents c) (h : ReadableAs c places f) where
  time_same : time_read (time_in f) ≡ time_is c.toi places
  time_same = time_is_lem f c.toi places h.carries.long h.carries.bits h.time

  ranges_done : (s : Subframe) → ranges_answer s (bits_in s f) ≡ Done
  ranges_done Two = fields_done (bits_in Two f) c.counts h.carries.fields good.fields
  ranges_done Three = page_done (bits_in Three f) (rw h.carries.page good.page_1)

  subframe_done : (s : Subframe) → subframe_answer s (subframe_in s f) ≡ Done
  subframe_done s =
      is_done_lem s (subframe_in s f)
      (record {
        long = subframe_length s f;
        bits = subframe_bits s f h.carries.bits;
        meets = h.carries.meets s;
        right = h.carries.checked s;
        ranges = ranges_done s;
      })

  answer_done : frame_answer f ≡ Done
  unfolding inner
  answer_done =
      lent_on f h.carries.long h.carries.bits (inner f)
      ∙ ap₂ in_turn (ap answer_of time_same) (ap₂ in_turn (subframe_done Two) (subframe_done Three))

  contents_same : contents_in f ≡ c
  unfolding contents_in
  contents_same =
      ap₂ (λ (toi : ℕ) (zs : List ℤ). record { toi = toi; counts = zs; page = bits_in Three f })
      (ap toi_read time_same) (counts_are (bits_in Two f) c.counts h.carries.fields good.fields.as_many)
      ∙ ap (λ (page : List ℕ). record { toi = c.toi; counts = c.counts; page = page }) h.carries.page

  -- contents that are in range are read
  pub reads_done : frame_read f ≡ Ok (frame_is c places)
  reads_done =
      ap (λ (a : Answer). given_by a (frame_is (contents_in f) (corrected_read (time_read (time_in f))))) answer_done
      ∙ ap₂ (λ (x : Contents) (n : ℕ). given_by Done (frame_is x n)) contents_same (ap corrected_read time_same)

pub parts : (f : List ℕ) → frame_answer f ≡ Done → Parts f
unfolding inner
parts f e =
    let lent = lent_done f (inner f) e in
    let first = both_done (answer_of (time_read (time_in f))) (in_turn (subframe_answer Two (subframe_in Two f)) (subframe_answer Three (subframe_in Three f))) lent.2 in
    let rest = both_done (subframe_answer Two (subframe_in Two f)) (subframe_answer Three (subframe_in Three f)) first.1 in
    record { long = lent.0; bits = lent.1; time = first.0; done = each rest.0 rest.1 }
  where
    each : subframe_answer Two (subframe_in Two f) ≡ Done → subframe_answer Three (subframe_in Three f) ≡ Done
        → (s : Subframe) → IsDone s (subframe_in s f)
    each a b Two = done_is Two (subframe_in Two f) a
    each a b Three = done_is Three (subframe_in Three f) b

-- what is read is in range
pub done_reads : (f : List ℕ) → frame_answer f ≡ Done
    → GoodContents (contents_in f) × ReadableAs (contents_in f) (corrected_read (time_read (time_in f))) f
unfolding contents_in
done_reads f e =
    let p = parts f e in
    let time = time_found f p.time in
    let fields = done_fields (bits_in Two f) (p.done Two).ranges in (
      record {
        time = time.used;
        fields = fields.0;
        long = bits_length Three f;
        bits = bits_take (bits_before Three) (subframe_in Three f) (p.done Three).bits;
        page_1 = done_page (bits_in Three f) (p.done Three).ranges;
      },
      record {
        time = time;
        carries = record {
          long = p.long;
          bits = p.bits;
          fields = fields.1;
          page = refl;
          checked = λ s. (p.done s).right;
          meets = λ s. (p.done s).meets;
        };
      },
    )
