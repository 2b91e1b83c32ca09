-- Frames with symbols turned: what is taken out of them, and that it is not what was sent.
-- Assumes nothing.
use Rattle.std.specs.Prelude.{◌≡◌, refl, ◌⊎◌, ℕ, zero, suc, ◌%◌, ◌≤◌, ◌<◌, take, drop}
use Rattle.std.proofs.Math.Path.{sym, ap}
use Rattle.std.proofs.Common.{◌∙◌, inl, inr, arith, length-drop, length-take-le}
use mathlib.Core.List.{List, [], ◌∷◌}
use Rattle.std.proofs.Math.ListN.{length, get_or}
use Rattle.words.specs.Bits.{IsBits}
use Rattle.words.specs.Noticed.{noticed}
use Rattle.words.specs.Reading.{time_borne}
use Rattle.words.specs.Sums.{add2, sums, differing, weight, Within24}
use Rattle.words.specs.Time.{time_is, time_read}
use Rattle.words.specs.Laws.Digits.{bits_take}
use Rattle.words.specs.Laws.Sums.{length_sums, sums_at, sums_are, differing_comm, differing_none, turned_differ}
use Rattle.tables.specs.Matrix.{matrix_of}
use Rattle.tables.specs.Published.{at_most_600}
use Rattle.tables.specs.declared.matrix.Subframe.{Subframe}
use Rattle.tables.specs.declared.matrix.Subframe.TheVariants.{Two, Three}
use Rattle.parity.specs.Equations.{data_of}
use Rattle.parity.specs.InOrder.{deinterleaved_linear}
use Rattle.parity.specs.Order.{SYMBOLS_2, deinterleaved, first_block, second_block}
use Rattle.frames.specs.Frame.{Contents, FRAME, TIME_SYMBOLS, time_in, ordered_in, subframe_in, data_in, bits_before, subframe_of, bits_from, frame_of}
use Rattle.frames.specs.Read.{frame_judged, time_alone}
use Rattle.frames.specs.Turned.{FrameFlags, turned, SomeTurned, NamedDamage, none, two, odd, near}
use Rattle.frames.specs.Laws.Reading.{IsDone, lent_on}
use Rattle.frames.specs.Laws.Blocks.{HaveBits, subframe_length, subframe_bits, data_length, bits_in_data, made_bits, made_right, only_made, time_of, frame_length, frame_bits, subframe_of_frame}
use Rattle.words.specs.Refusal.{Answer, Done, in_turn}

-- ---- parts of sums

take_sums : (n : ℕ) (a b : List ℕ) → take n (sums a b) ≡ sums (take n a) (take n b)
take_sums zero [] b = refl
take_sums zero (x ∷ a) [] = refl
take_sums zero (x ∷ a) (y ∷ b) = refl
take_sums (suc n) [] b = refl
take_sums (suc n) (x ∷ a) [] = refl
take_sums (suc n) (x ∷ a) (y ∷ b) = ap (λ (l : List ℕ). add2 x y ∷ l) (take_sums n a b)

sums_none : (a : List ℕ) → sums a [] ≡ []
sums_none [] = refl
sums_none (x ∷ a) = refl

drop_sums : (n : ℕ) (a b : List ℕ) → drop n (sums a b) ≡ sums (drop n a) (drop n b)
drop_sums zero [] b = refl
drop_sums zero (x ∷ a) [] = refl
drop_sums zero (x ∷ a) (y ∷ b) = refl
drop_sums (suc n) [] b = refl
drop_sums (suc n) (x ∷ a) [] = sym (sums_none (drop n a))
drop_sums (suc n) (x ∷ a) (y ∷ b) = drop_sums n a b

-- taken out of order, a sum is the sum of both
ordered_sums : (f t : List ℕ) → length f ≡ length t
    → deinterleaved (ordered_in (sums f t)) ≡ sums (deinterleaved (ordered_in f)) (deinterleaved (ordered_in t))
ordered_sums f t e =
    ap deinterleaved (drop_sums TIME_SYMBOLS f t)
    ∙ deinterleaved_linear (ordered_in f) (ordered_in t)
    (length-drop TIME_SYMBOLS f ∙ omega arith ∙ sym (length-drop TIME_SYMBOLS t))

subframe_sums : (s : Subframe) (f t : List ℕ) → length f ≡ length t → subframe_in s (sums f t) ≡ sums (subframe_in s f) (subframe_in s t)
unfolding first_block second_block
subframe_sums Two f t e =
    ap (take SYMBOLS_2) (ordered_sums f t e) ∙ take_sums SYMBOLS_2 (deinterleaved (ordered_in f)) (deinterleaved (ordered_in t))
subframe_sums Three f t e =
    ap (drop SYMBOLS_2) (ordered_sums f t e) ∙ drop_sums SYMBOLS_2 (deinterleaved (ordered_in f)) (deinterleaved (ordered_in t))

-- a bit and its sum with a flag
turned_bit : (x y : ℕ) → y ≡ 1 → add2 x y ≡ x → ⊥
turned_bit x y e h = omega arith

flag_of : (x y : ℕ) → x < 2 → y < 2 → (x ≡ add2 x y → ⊥) → y ≡ 1
flag_of x zero hx hy h = absurd (h (omega arith))
flag_of x (suc y) hx hy h = omega arith

-- the kinds that demand 3 names, of two lists that differ where the flags are set
not_so : (flags d g : List ℕ) → (d ≡ g → ⊥) → differing d g ≡ weight flags
    → ((k : ℕ) → (get_or d k 0 ≡ get_or g k 0 → ⊥) → get_or flags k 0 ≡ 1)
    → ((differing d g % 2 ≡ 1) ⊎ ((differing d g ≡ 2) ⊎ ((p : ℕ) × Within24 d g p)) → ⊥)
    → NamedDamage flags → ⊥
not_so flags d g ne differ flagged refute (none h) = ne (differing_none d g (differ ∙ h))
not_so flags d g ne differ flagged refute (two h) = refute (inr (inl (differ ∙ h)))
not_so flags d g ne differ flagged refute (odd h) = refute (inl (ap (λ (n : ℕ). n % 2) differ ∙ h))
not_so flags d g ne differ flagged refute (near p h) =
    refute (inr (inr (p, record { inside = λ k differs. h k (flagged k differs) })))

-- ---- reading

module _ (c : Contents) (t : List ℕ) (have : HaveBits c) (flags : FrameFlags t) where
  same : length (frame_of c) ≡ length t
  same = frame_length c ∙ sym flags.long

  -- the turned frame is 1800 bits
  turned_length : length (turned (frame_of c) t) ≡ FRAME
  turned_length = length_sums (frame_of c) t same ∙ frame_length c

  turned_bits : IsBits (turned (frame_of c) t)
  turned_bits = sums_are (frame_of c) t

  pub turned_judged : (a : Answer) → frame_judged (turned (frame_of c) t) a ≡ a
  turned_judged a = lent_on (turned (frame_of c) t) turned_length turned_bits a

  pub time_read_lem : c.toi ≤ 399 → weight (time_in t) ≤ 9 → time_alone (turned (frame_of c) t) ≡ time_is c.toi (weight (time_in t))
  time_read_lem used few =
      ap (λ (a : Answer). in_turn a (time_read (time_in (turned (frame_of c) t)))) (turned_judged Done)
      ∙ ap time_read (take_sums TIME_SYMBOLS (frame_of c) t ∙ ap (λ (w : List ℕ). sums w (time_in t)) (time_of c))
      ∙ time_borne c.toi (time_in t) used
      (length-take-le TIME_SYMBOLS t (omega (arith, flags.long))) (bits_take TIME_SYMBOLS t flags.bits) few

  module _ (s : Subframe) where
    sent : List ℕ
    sent = subframe_in s (frame_of c)

    unfoldable pub got : List ℕ
    got = subframe_in s (turned (frame_of c) t)

    got_is : got ≡ sums sent (subframe_in s t)
    unfolding sent got
    got_is = subframe_sums s (frame_of c) t same

    data_is : data_of (matrix_of s) got ≡ sums (data_of (matrix_of s) sent) (data_in s t)
    data_is = ap (data_of (matrix_of s)) got_is ∙ take_sums (matrix_of s).equations sent (subframe_in s t)

    sent_is : sent ≡ subframe_of s (bits_from s c)
    unfolding sent
    sent_is = subframe_of_frame c have s

    -- the data symbols differ where flags are set
    data_differ : differing (data_of (matrix_of s) sent) (data_of (matrix_of s) got) ≡ weight (data_in s t)
    unfolding sent
    data_differ =
        let d = data_of (matrix_of s) sent in
        differing_comm d (data_of (matrix_of s) got)
        ∙ ap (λ (l : List ℕ). differing l d) data_is
        ∙ turned_differ d (data_in s t) (data_length s (frame_of c) ∙ sym (data_length s t))
        (bits_take (matrix_of s).equations sent (subframe_bits s (frame_of c) (frame_bits c have)))
        (bits_take (matrix_of s).equations (subframe_in s t) (subframe_bits s t flags.bits))

    -- where the data symbols are as sent, in a subframe that is right, all are
    all_same : IsDone s got → data_of (matrix_of s) sent ≡ data_of (matrix_of s) got → got ≡ sent
    all_same done e =
        only_made s got done.long done.bits done.right done.meets
        ∙ ap (subframe_of s)
        (sym (bits_in_data s got) ∙ ap (take (bits_before s)) (sym e) ∙ bits_in_data s sent
        ∙ ap (take (bits_before s)) sent_is ∙ made_bits s (bits_from s c) (have.many s) (have.are s))
        ∙ sym sent_is

    -- and a symbol that is turned is not
    not_same : SomeTurned s t → got ≡ sent → ⊥
    unfolding sent
    not_same some e =
        let at : get_or got some.place 0 ≡ add2 (get_or sent some.place 0) (get_or (subframe_in s t) some.place 0) =
        ap (λ (l : List ℕ). get_or l some.place 0) got_is
        ∙ sums_at sent (subframe_in s t) (subframe_length s (frame_of c) ∙ sym (subframe_length s t)) some.place in
        turned_bit (get_or sent some.place 0) (get_or (subframe_in s t) some.place 0) some.flag
        (sym at ∙ ap (λ (l : List ℕ). get_or l some.place 0) e)

    -- the places in which the data symbols differ are flagged
    differ_flagged : (k : ℕ) → (get_or (data_of (matrix_of s) sent) k 0 ≡ get_or (data_of (matrix_of s) got) k 0 → ⊥) → get_or (data_in s t) k 0 ≡ 1
    unfolding sent
    differ_flagged k h =
        let d = data_of (matrix_of s) sent in
        let at : get_or (data_of (matrix_of s) got) k 0 ≡ add2 (get_or d k 0) (get_or (data_in s t) k 0) =
        ap (λ (l : List ℕ). get_or l k 0) data_is ∙ sums_at d (data_in s t) (data_length s (frame_of c) ∙ sym (data_length s t)) k in
        flag_of (get_or d k 0) (get_or (data_in s t) k 0)
        ((bits_take (matrix_of s).equations sent (subframe_bits s (frame_of c) (frame_bits c have))).bit k)
        ((bits_take (matrix_of s).equations (subframe_in s t) (subframe_bits s t flags.bits)).bit k)
        (λ e. h (e ∙ sym at))

    pub not_right : NamedDamage (data_in s t) → SomeTurned s t → IsDone s got → ⊥
    unfolding sent got
    not_right how some done =
        let d = data_of (matrix_of s) sent in
        let g = data_of (matrix_of s) got in
        let ne : d ≡ g → ⊥ = λ e. not_same some (all_same done e) in
        not_so (data_in s t) d g ne data_differ differ_flagged
        (λ kind. noticed d g
        (data_sent ∙ sym data_got) (omega (arith, data_sent, at_most_600 s))
        (bits_take (matrix_of s).equations sent (subframe_bits s (frame_of c) (frame_bits c have)))
        (bits_take (matrix_of s).equations got done.bits)
        (rw sent_is (made_right s (bits_from s c) (have.many s) (have.are s))) ne kind done.right)
        how
      where
        data_sent : length (data_of (matrix_of s) sent) ≡ (matrix_of s).equations
        data_sent = data_length s (frame_of c)

        data_got : length (data_of (matrix_of s) got) ≡ (matrix_of s).equations
        data_got = data_length s (turned (frame_of c) t)
