-- The walk (document 01, "The sheet"): from the last sheet to the first. At place 0 it says finished; on a refused sheet it gives the
-- refusal and its place stays; a place past the end is 1 at 0.
-- Assumes nothing.
use Rattle.std.specs.Prelude.{◌≡◌, Option, None, Some, Result, Ok, Err, cond, List, [], ◌∷◌, ◌++◌, ℕ, eqb, leb, ℤ, length, take}
use Rattle.words.specs.Refusal.{LENGTH, refused_at}
use Rattle.words.specs.declared.refusal.Refusal.{Refusal}
use Rattle.fields.specs.Counts.{AllInRange}
use Rattle.sheets.specs.List.{sheet_fields}
use Rattle.sheets.specs.Sheet.{IsSheet, sheet_is, sheet_read}
use Rattle.sheets.specs.declared.sheet.Sheet.{Sheet}

-- one step of the walk over s from this place: none at the first byte, where it is finished, and else what is read of the sheet that ends at
-- the place; a place past the end is refused
unfoldable pub step_at : List ℕ → ℕ → Option (Result Sheet Refusal)
step_at s place = cond (leb place (length s)) (cond (eqb place 0) None (Some (sheet_read (take place s)))) (Some (refused_at LENGTH 0))

-- where the walk goes on after a step: at the sheet's first byte; finished or on a refusal, at the same place
abbrev pub place_after : Option (Result Sheet Refusal) → ℕ → ℕ
place_after None place = place
place_after (Some (Ok sheet)) place = sheet.before
place_after (Some (Err r)) place = place

-- ---- walking over the sheets of a file

-- the step that gives these numbers, and goes on at the sheet's first byte
abbrev pub sheet_step : List ℤ → ℕ → Option (Result Sheet Refusal)
sheet_step zs place = Some (sheet_is zs place)

-- from one place of s to another, the walk gives these numbers, one sheet after another
pub data WalkGives (s : List ℕ) : ℕ → List (List ℤ) → ℕ → Type 0 where
  no_step : (place : ℕ) → WalkGives s place [] place
  one_step : (place next end : ℕ) (zs : List ℤ) (others : List (List ℤ)) → step_at s place ≡ sheet_step zs next → WalkGives s next others end
      → WalkGives s place (zs ∷ others) end

-- sheets, listed from the last to the first, behind other bytes
unfoldable pub file_of : List ℕ → List (List ℕ) → List ℕ
file_of front [] = front
file_of front (sheet ∷ earlier) = file_of front earlier ++ sheet

-- each is a sheet of its numbers
unfoldable pub AreSheets : List (List ℤ) → List (List ℕ) → Type 0
AreSheets [] [] = Unit {0}
AreSheets [] (sheet ∷ sheets) = ⊥
AreSheets (zs ∷ others) [] = ⊥
AreSheets (zs ∷ others) (sheet ∷ sheets) = IsSheet zs sheet × AreSheets others sheets

-- each of these is a good set of numbers
unfoldable pub AllGood : List (List ℤ) → Type 0
AllGood [] = Unit {0}
AllGood (zs ∷ others) = AllInRange sheet_fields zs × AllGood others
