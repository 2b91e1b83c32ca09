-- The sheet at the end of bytes: whether there is one, where it begins, and what is read of it.
-- Assumes nothing.
use Rattle.std.specs.Prelude.{◌≡◌, Bool, List, ℕ, ◌-◌, ◌≤◌, ℤ, Err, Ok}
use Rattle.std.proofs.Math.Path.{refl}
use Rattle.std.proofs.Math.Bool.{true, false, cond}
use native.Mathlib.Omega.{arith}
use Rattle.std.proofs.Math.ListN.{length}
use Rattle.words.specs.Refusal.{TRAILER, Answer, refused_at}
use Rattle.sheets.specs.Trailer.{trailer_place, trailer_count, has_trailer, start_of, lines_bytes}
use Rattle.sheets.specs.Lines.{lines_in, numbers_in, body_answer}
use Rattle.sheets.specs.Sheet.{sheet_answer, sheet_by, sheet_read, sheet_before}
use Rattle.sheets.specs.Laws.Trailer.{start_before}

by_within : (a : Answer) (zs : List ℤ) (before n : ℕ) → before ≤ n → sheet_before (sheet_by a zs before) ≤ n
by_within (Ok _) zs before n h = h
by_within (Err r) zs before n h = omega arith

module _ (s : List ℕ) where
  -- bytes end with no trailer where a sheet would begin at their end
  pub trailer_none : start_of s ≡ length s → has_trailer s ≡ false
  trailer_none h = go (has_trailer s) refl
    where
      go : (t : Bool) → has_trailer s ≡ t → t ≡ false
      go true e = absurd (omega (arith, start_before s e))
      go false e = refl

  pub trailer_there : (start_of s ≡ length s → ⊥) → has_trailer s ≡ true
  unfolding start_of
  trailer_there h = go (has_trailer s) h
    where
      go : (t : Bool) → (cond t (trailer_place s - trailer_count s) (length s) ≡ length s → ⊥) → t ≡ true
      go true k = refl
      go false k = absurd (k refl)

  pub start_within : start_of s ≤ length s
  unfolding start_of
  start_within = go (has_trailer s)
    where
      go : (t : Bool) → cond t (trailer_place s - trailer_count s) (length s) ≤ length s
      go true = omega arith
      go false = omega arith

  -- without a trailer there is no sheet, and else what is read of its lines
  pub read_none : has_trailer s ≡ false → sheet_read s ≡ refused_at TRAILER 0
  unfolding sheet_read
  read_none e = rw e

  pub read_there : has_trailer s ≡ true → sheet_read s ≡ sheet_by (body_answer (lines_bytes s)) (numbers_in (lines_in (lines_bytes s))) (start_of s)
  unfolding sheet_read
  read_there e = rw e

  -- what stands before a sheet is within the bytes
  pub before_within : sheet_before (sheet_read s) ≤ length s
  unfolding sheet_read
  before_within = by_within (sheet_answer s) (numbers_in (lines_in (lines_bytes s))) (start_of s) (length s) start_within
