-- THEOREMS: demand 2, building. What is built is a frame of the contents, and it is the only one.
-- Assumes nothing.
use Rattle.std.specs.Prelude.{◌≡◌, List, ◌++◌, ℕ}
use Rattle.std.proofs.Common.{sym, ap, ap₂, ◌∙◌, take-append-drop}
use Rattle.tables.specs.declared.matrix.Subframe.{Subframe}
use Rattle.tables.specs.declared.matrix.Subframe.TheVariants.{Two, Three}
use Rattle.words.specs.Laws.Digits.{bits_take}
use Rattle.fields.specs.Counts.{counts_in}
use Rattle.fields.specs.Subframe2.{fields2}
use Rattle.parity.specs.Order.{interleaved}
use Rattle.frames.specs.Frame.{Contents, GoodContents, TIME_SYMBOLS, ordered_in, subframe_in, bits_before, bits_in, Carries, IsFrame, subframe_of, bits_from, frame_of}
use Rattle.frames.specs.Laws.Blocks.{subframe_length, subframe_bits, bits_length, made_block, made_right, only_made, time_of, ordered_of, frame_length, frame_bits, subframe_of_frame, bits_of_frame, ordered_in_lem}
use Rattle.frames.specs.Laws.Good.{good_bits, counts_found, bits_found}

-- The frame of good contents is a frame of them.
pub built_right : (c : Contents) → GoodContents c → IsFrame c (frame_of c)
built_right c good =
    let have = good_bits c good in
    record {
      time = time_of c;
      carries = record {
        long = frame_length c;
        bits = frame_bits c have;
        fields = ap (counts_in fields2) (bits_of_frame c have Two) ∙ counts_found c.counts good.fields;
        page = bits_of_frame c have Three;
        checked = λ s. rw (subframe_of_frame c have s) (made_right s (bits_from s c) (have.many s) (have.are s));
        meets = λ s. rw (subframe_of_frame c have s) (made_block s (bits_from s c) (have.many s) (have.are s)).meets;
      };
    }

-- the bits of a subframe that carries contents are theirs
carried_bits_lem : (c : Contents) (f : List ℕ) → Carries c f → (s : Subframe) → bits_in s f ≡ bits_from s c
carried_bits_lem c f h Two =
    bits_found (bits_in Two f) c.counts (bits_length Two f) (bits_take (bits_before Two) (subframe_in Two f) (subframe_bits Two f h.bits)) h.fields
carried_bits_lem c f h Three = h.page

-- so are its symbols
carried_subframe : (c : Contents) (f : List ℕ) → Carries c f → (s : Subframe) → subframe_in s f ≡ subframe_of s (bits_from s c)
carried_subframe c f h s =
    only_made s (subframe_in s f) (subframe_length s f) (subframe_bits s f h.bits) (h.checked s) (h.meets s)
    ∙ ap (subframe_of s) (carried_bits_lem c f h s)

-- All symbols behind the time word are determined by what they carry.
pub carried_only : (c : Contents) (f : List ℕ) → Carries c f → ordered_in f ≡ ordered_in (frame_of c)
carried_only c f h =
    ordered_in_lem f h.long
    ∙ ap₂ (λ (a b : List ℕ). interleaved (a ++ b)) (carried_subframe c f h Two) (carried_subframe c f h Three)
    ∙ sym (ordered_of c)

-- Every frame of contents is the one that is built.
pub is_built : (c : Contents) (f : List ℕ) → IsFrame c f → f ≡ frame_of c
is_built c f h =
    sym (take-append-drop TIME_SYMBOLS f)
    ∙ ap₂ (λ (a b : List ℕ). a ++ b) (h.time ∙ sym (time_of c)) (carried_only c f h.carries)
    ∙ take-append-drop TIME_SYMBOLS (frame_of c)

-- So contents have one frame.
pub only_one : (c : Contents) (f g : List ℕ) → IsFrame c f → IsFrame c g → f ≡ g
only_one c f g h k = is_built c f h ∙ sym (is_built c g k)
