-- What the last eleven bytes tell of a trailer, and where the sheet begins by it, case by case as the code finds it.
-- Assumes nothing.
use Rattle.std.specs.Prelude.{Option, Some, None, SomeIff}
use Rattle.std.specs.Option.{unwrap_or}
use mathlib.Core.Path.{◌≡◌, refl, sym, ap, ◌∙◌}
use mathlib.Core.Bool.{Bool, true, false, cond, ◌&&◌, and-true, and-false}
use mathlib.Core.List.{List}
use Prim.Native.Nat.{ℕ, ◌-◌, ◌≤◌, ◌<◌, min}
use native.Mathlib.Omega.{arith}
use lib.Dec.{leb}
use lib.ListN.{length, get_or, take, drop}
use borrow.Author.Tests.{eq-eqb, ne_eqb, le-leb, lt-leb}
use Rattle.parity.specs.Laws.Parts.{rest_part}
use Rattle.sheets.specs.Text.{LINE_END, bytes_in, same_bytes}
use Rattle.sheets.specs.Number.{all_digits}
use Rattle.sheets.specs.Trailer.{TRAILER_BYTES, MOST_BYTES, trailer_place, digits_in, is_trailer, trailer_count, has_trailer, start_of}
use Rattle.sheets.specs.Laws.Steps.{BEYOND, digits_read, digits_are, digits_are_not, count_read, start_read}

-- ---- eleven bytes

module _ (t : List ℕ) where
  -- other letters before the digits
  pub word_other : same_bytes (take 5 t) (bytes_in "back ") ≡ false → None ≡ count_read t
  unfolding is_trailer
  word_other e = rw e

  module _ (w : same_bytes (take 5 t) (bytes_in "back ") ≡ true) where
    -- no line end behind the digits
    pub end_other : (get_or t 10 0 ≡ LINE_END → ⊥) → None ≡ count_read t
    unfolding is_trailer
    end_other n = rw (w, ne_eqb (get_or t 10 0) LINE_END n, and-false (all_digits (digits_in t)))

    -- the digits decide
    pub by_digits : get_or t 10 0 ≡ LINE_END → digits_read (digits_in t) ≡ count_read t
    unfolding is_trailer
    by_digits e = rw (w, eq-eqb (get_or t 10 0) LINE_END e, and-true (all_digits (digits_in t)))

-- ---- where the sheet begins

by_trailer : (there test : Bool) (n many : ℕ) → there ≡ test → cond there (Some (cond there n many)) None ≡ cond test (Some n) None
by_trailer there true n many e = rw e
by_trailer there false n many e = rw e

module _ (s : List ℕ) where
  -- fewer than eleven bytes
  pub too_short : (TRAILER_BYTES ≤ length s → ⊥) → None ≡ start_read s
  unfolding has_trailer
  too_short h = rw (lt-leb TRAILER_BYTES (length s) (omega arith))

  -- the last eleven, as the code lends them
  module _ (place : ℕ) (at : place ≡ trailer_place s) (r : Option ℕ) (e : r ≡ count_read (take (length s - place) (drop place s))) where
    counted : count_read (drop (trailer_place s) s) ≡ r
    counted = ap count_read (sym (rest_part (trailer_place s) s)) ∙ ap (λ (i : ℕ). count_read (take (length s - i) (drop i s))) (sym at) ∙ sym e

    -- they are no trailer
    pub none_ends : r ≡ None → None ≡ start_read s
    unfolding has_trailer
    none_ends f =
        rw (
          digits_are_not (is_trailer (drop (trailer_place s) s)) (digits_in (drop (trailer_place s) s)) (counted ∙ f),
          and-false (leb TRAILER_BYTES (length s)),
        )

    module _ (h : TRAILER_BYTES ≤ length s) (v : ℕ) (f : r ≡ Some v) where
      last : (is_trailer (drop (trailer_place s) s) ≡ true) × (v ≡ min (trailer_count s) BEYOND)
      unfolding trailer_count
      last = digits_are (is_trailer (drop (trailer_place s) s)) (digits_in (drop (trailer_place s) s)) v (counted ∙ f)

      by_count : start_read s
          ≡ cond (leb (trailer_count s) MOST_BYTES && leb (trailer_count s) (trailer_place s)) (Some (trailer_place s - trailer_count s)) None
      unfolding start_of has_trailer
      by_count = by_trailer (has_trailer s) _ (trailer_place s - trailer_count s) (length s) (rw (le-leb TRAILER_BYTES (length s) h, last.0))

      -- the count is over 4096
      pub over_most : MOST_BYTES < v → None ≡ start_read s
      over_most k = rw (by_count, lt-leb (trailer_count s) MOST_BYTES (omega (arith, last.1)))

      -- it points into the bytes, or before the first one
      pub begins : v ≤ MOST_BYTES → (start : Option ℕ) → SomeIff start (v ≤ place) (place - v) → start ≡ start_read s
      begins j None past = rw (by_count, lt-leb (trailer_count s) (trailer_place s) (omega (arith, last.1, at)), and-false (leb (trailer_count s) MOST_BYTES))
      begins j (Some n) is =
          let same : n ≡ trailer_place s - trailer_count s = omega (arith, last.1, at) in
          rw (by_count, le-leb (trailer_count s) MOST_BYTES (omega (arith, last.1)), le-leb (trailer_count s) (trailer_place s) (omega (arith, last.1, at)), same)

-- the number of bytes, where there is no trailer
pub start_or : (s : List ℕ) → unwrap_or (start_read s) (length s) ≡ start_of s
unfolding start_of
start_or s = by_test (has_trailer s)
  where
    by_test : (t : Bool) → unwrap_or (cond t (Some (cond t (trailer_place s - trailer_count s) (length s))) None) (length s) ≡ cond t (trailer_place s - trailer_count s) (length s)
    by_test true = refl
    by_test false = refl
