-- THEOREMS: demand 2, reading. Which frames are read, with which contents; and which are refused, with which number, where.
-- Assumes nothing.
use Rattle.std.specs.Prelude.{◌≡◌, List, ◌↔◌, ℕ, ◌+◌, ◌≤◌, ℤ, Ok}
use Rattle.std.proofs.Common.{sym, ap, ap₂, ◌∙◌, arith, take-append-drop}
use Rattle.words.specs.Sums.{differing}
use Rattle.words.specs.Time.{time_read, time_word, corrected_read}
use Rattle.words.specs.Laws.Sums.{differing_self, differing_append}
use Rattle.words.specs.Laws.Turns.{Answered, done, refused, answered, not_done, ok_same}
use Rattle.tables.specs.declared.matrix.Subframe.{Subframe}
use Rattle.tables.specs.declared.matrix.Subframe.TheVariants.{Two, Three}
use Rattle.fields.specs.Table.{fields_in}
use Rattle.fields.specs.Counts.{counts_in}
use Rattle.fields.specs.declared.table.Table.TheVariants.{Subframe2}
use Rattle.frames.specs.Frame.{Contents, GoodContents, TIME_SYMBOLS, time_in, ordered_in, subframe_in, bits_in, ReadableAs, frame_of}
use Rattle.frames.specs.Read.{subframe_answer, frame_judged, frame_answer, contents_in, frame_is, frame_read, subframe2_alone, subframe3_alone}
use Rattle.frames.specs.Due.{AreSymbols, SubframeGood}
use Rattle.frames.specs.Built.{built_right, carried_only}
use Rattle.frames.specs.Laws.Blocks.{time_of, frame_length}
use Rattle.frames.proofs.Laws.Due.{good_done, done_good}
use Rattle.frames.specs.Laws.Reading.{lent_on, lent_done, time_length}
use Rattle.frames.proofs.Laws.Reading.{reads_done, done_reads}
use Rattle.frames.specs.declared.read.Frame.{Frame}
use Rattle.words.specs.Refusal.{Answer, Done, answer_of, given_by}

-- the contents of what was read
contents_read : Frame → Contents
contents_read x = record { toi = x.toi; counts = x.counts; page = x.page }

-- Reading gives contents and a number exactly if the contents are good, the first 52 symbols differ in that many places, at most nine,
-- from the word of their time, and all else is as in a frame of them.
pub read_exactly : (f : List ℕ) (c : Contents) (places : ℕ) → (frame_read f ≡ Ok (frame_is c places)) ↔ (GoodContents c × ReadableAs c places f)
unfolding contents_read
read_exactly f c places = (so (answered (frame_answer f)), λ h. reads_done c places f h.0 h.1)
  where
    so : Answered (frame_answer f) → frame_read f ≡ Ok (frame_is c places) → GoodContents c × ReadableAs c places f
    so (done e) r =
        let found = frame_is (contents_in f) (corrected_read (time_read (time_in f))) in
        let both : found ≡ frame_is c places = ok_same found (frame_is c places) (sym (ap (λ (a : Answer). given_by a found) e) ∙ r) in
        let contents : contents_in f ≡ c =
        ap contents_read both in
        let number : corrected_read (time_read (time_in f)) ≡ places = ap (λ (x : Frame). x.corrected) both in
        rw contents at (rw number at (done_reads f e))
    so (refused n p e) r =
        absurd (not_done n p (ap answer_of
        (sym (ap (λ (a : Answer). given_by a (frame_is (contents_in f) (corrected_read (time_read (time_in f))))) e) ∙ r)))

-- A frame that is built is read: the same contents, and no symbol corrected.
pub read_built : (c : Contents) → GoodContents c → frame_read (frame_of c) ≡ Ok (frame_is c 0)
read_built c good =
    reads_done c 0 (frame_of c) good
    (record {
      time = record {
        used = good.time;
        counted = ap (λ (w : List ℕ). differing w (time_word c.toi)) (time_of c) ∙ differing_self (time_word c.toi);
        near = omega arith;
      };
      carries = (built_right c good).carries;
    })

-- So different contents have different frames.
pub frames_differ : (c d : Contents) → GoodContents c → GoodContents d → frame_of c ≡ frame_of d → c ≡ d
unfolding contents_read
frames_differ c d good_c good_d e =
    ap contents_read (ok_same (frame_is c 0) (frame_is d 0) (sym (read_built c good_c) ∙ ap frame_read e ∙ read_built d good_d))

-- Building what was read gives the same symbols back, except the time symbols that were corrected, and the number reported is theirs.
pub built_again : (f : List ℕ) (c : Contents) (places : ℕ) → frame_read f ≡ Ok (frame_is c places)
    → (ordered_in (frame_of c) ≡ ordered_in f) × (differing f (frame_of c) ≡ places) × (places ≤ 9)
built_again f c places e =
    let h = ((read_exactly f c places).0 e).1 in
    let same = carried_only c f h.carries in (
      sym same,
      ap₂ differing (sym (take-append-drop TIME_SYMBOLS f)) (sym (take-append-drop TIME_SYMBOLS (frame_of c)))
          ∙ differing_append (time_in f) (ordered_in f) (time_in (frame_of c)) (ordered_in (frame_of c))
          (time_length f h.carries.long ∙ sym (time_length (frame_of c) (frame_length c)))
          ∙ ap₂ (λ (m n : ℕ). m + n)
          (ap (differing (time_in f)) (time_of c) ∙ h.time.counted)
          (ap (λ (l : List ℕ). differing l (ordered_in (frame_of c))) same ∙ differing_self (ordered_in (frame_of c)))
          ∙ omega arith,
      h.time.near,
    )

-- ---- alone

-- a subframe alone is done exactly if nothing of it is due
alone_good : (s : Subframe) (f : List ℕ) → (frame_judged f (subframe_answer s (subframe_in s f)) ≡ Done) ↔ (AreSymbols f × SubframeGood s f)
alone_good s f = (so, back)
  where
    so : frame_judged f (subframe_answer s (subframe_in s f)) ≡ Done → AreSymbols f × SubframeGood s f
    so e =
        let lent = lent_done f (subframe_answer s (subframe_in s f)) e in
        let are : AreSymbols f = record { long = lent.0; bits = lent.1 } in
        (are, done_good s f are lent.2)

    back : AreSymbols f × SubframeGood s f → frame_judged f (subframe_answer s (subframe_in s f)) ≡ Done
    back h = lent_on f h.0.long h.0.bits (subframe_answer s (subframe_in s f)) ∙ good_done s f h.0 h.1

-- Subframe 2 alone is read exactly if there are 1800 symbols and nothing of it is due, with the counts that its fields stand for.
pub subframe2_exactly : (f : List ℕ) (zs : List ℤ)
    → (subframe2_alone f ≡ Ok zs) ↔ (AreSymbols f × SubframeGood Two f × (counts_in (fields_in Subframe2) (bits_in Two f) ≡ zs))
subframe2_exactly f zs = (so (answered (frame_judged f (subframe_answer Two (subframe_in Two f)))), back)
  where
    so : Answered (frame_judged f (subframe_answer Two (subframe_in Two f))) → subframe2_alone f ≡ Ok zs
        → AreSymbols f × SubframeGood Two f × (counts_in (fields_in Subframe2) (bits_in Two f) ≡ zs)
    so (done e) r =
        let good = (alone_good Two f).0 e in
        (good.0, good.1, ok_same _ zs (sym (ap (λ (a : Answer). given_by a (counts_in (fields_in Subframe2) (bits_in Two f))) e) ∙ r))
    so (refused n p e) r =
        absurd (not_done n p (ap answer_of
        (sym (ap (λ (a : Answer). given_by a (counts_in (fields_in Subframe2) (bits_in Two f))) e) ∙ r)))

    back : AreSymbols f × SubframeGood Two f × (counts_in (fields_in Subframe2) (bits_in Two f) ≡ zs) → subframe2_alone f ≡ Ok zs
    back h = ap₂ given_by ((alone_good Two f).1 (h.0, h.1)) h.2

-- Subframe 3 alone is read exactly if there are 1800 symbols and nothing of it is due, with its page bits.
pub subframe3_exactly : (f : List ℕ) (page : List ℕ)
    → (subframe3_alone f ≡ Ok page) ↔ (AreSymbols f × SubframeGood Three f × (bits_in Three f ≡ page))
subframe3_exactly f page = (so (answered (frame_judged f (subframe_answer Three (subframe_in Three f)))), back)
  where
    so : Answered (frame_judged f (subframe_answer Three (subframe_in Three f))) → subframe3_alone f ≡ Ok page
        → AreSymbols f × SubframeGood Three f × (bits_in Three f ≡ page)
    so (done e) r =
        let good = (alone_good Three f).0 e in
        (good.0, good.1, ok_same _ page (sym (ap (λ (a : Answer). given_by a (bits_in Three f)) e) ∙ r))
    so (refused n p e) r =
        absurd (not_done n p (ap answer_of (sym (ap (λ (a : Answer). given_by a (bits_in Three f)) e) ∙ r)))

    back : AreSymbols f × SubframeGood Three f × (bits_in Three f ≡ page) → subframe3_alone f ≡ Ok page
    back h = ap₂ given_by ((alone_good Three f).1 (h.0, h.1)) h.2
