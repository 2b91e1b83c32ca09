-- What is copied over lent memory behind the first number.
-- Assumes nothing.
use mathlib.Core.Path.{◌≡◌, ap, ◌∙◌}
use mathlib.Core.List.{List, [], ◌∷◌, ◌++◌, append-nil}
use Prim.Native.Nat.{suc, ◌-◌, ◌≤◌}
use native.Mathlib.Omega.{arith}
use lib.ListN.{length, set, drop_of_length-le}
use borrow.Rule.Slice.PartMut.{put_mid}

module _ {A : Type 0} where
  -- the first is set, and the others are put behind it
  pub put_behind : (t : A) (counts into : List A) → suc (length counts) ≡ length into
      → put_mid 1 (length (set into 0 t) - 1) (set into 0 t) counts ≡ t ∷ counts
  put_behind t counts [] e = absurd (omega arith)
  put_behind t counts (x ∷ into) e =
      let none : length into ≤ suc (length into) - 1 = omega arith in
      ap (λ (r : List A). t ∷ counts ++ r) (drop_of_length-le into none) ∙ append-nil (t ∷ counts)
