-- The first byte of a kind, as `position` finds it, and the same bytes, as `==` and `starts_with` compare them.
-- Assumes nothing.
use Rattle.std.proofs.Common.{◌≡◌, refl, ℕ, List, [], ◌∷◌, eqb, ltb, length, ap, cond, ◌&&◌, take, ap₂, arith}
use Rattle.std.specs.List.{position, position_or_len, starts_with}
use Rattle.std.specs.declared.option.Option.TheVariants.{None, Some}
use Rattle.std.proofs.lemmas.List.Recursion.{is_position_or_len}
use Rattle.std.proofs.lemmas.Bool.Decides.{nat_tests}
use Rattle.sheets.specs.Text.{index_of, same_bytes}
use Rattle.sheets.specs.Laws.Steps.{first_at}
use lib.Pointwise.{pointwise}

pub index_is : (b : ℕ) (l : List ℕ) → index_of b l ≡ position_or_len (λ x. eqb x b) l
unfolding index_of
index_is b l = is_position_or_len (index_of b) (λ x. eqb x b) refl (λ x xs. ap (λ n. cond (eqb x b) 0 n) (omega arith)) l

pub first_position : (b : ℕ) (l : List ℕ) → first_at b l ≡ position (λ x. eqb x b) l
first_position b l = ap (λ (n : ℕ). cond (ltb n (length l)) (Some n) None) (index_is b l)

flipped : (x y : ℕ) → eqb x y ≡ eqb y x
flipped x y = grind (arith, nat_tests)

pub same_flipped : (a b : List ℕ) → same_bytes a b ≡ pointwise eqb b a
unfolding same_bytes
same_flipped [] [] = refl
same_flipped [] (y ∷ b) = refl
same_flipped (x ∷ a) [] = refl
same_flipped (x ∷ a) (y ∷ b) = ap₂ (λ t u. t && u) (flipped x y) (same_flipped a b)

pub same_starts : (l word : List ℕ) → same_bytes (take (length word) l) word ≡ starts_with eqb l word
same_starts l word = same_flipped (take (length word) l) word
