-- A name's position among lent names, as `position` finds it; and the names of the list, each as the part of a text between two starts.
-- Assumes nothing.
use Rattle.std.proofs.Common.{◌≡◌, refl, ℕ, suc, ◌+◌, List, Bor, Some, None, eqb, ltb, length, map, cond, sym, ap, ap₂, ◌∙◌, arith}
use Rattle.std.proofs.lemmas.List.{length-map}
use Rattle.std.proofs.lemmas.List.Recursion.{is_position_or_len}
use Rattle.std.specs.List.{position_or_len}
use mathlib.Core.Bool.{Bool, true, ◌&&◌, and-eq-true_iff}
use mathlib.Core.List.{[]}
use Prim.Native.Nat.{◌-◌, ◌≤◌, ◌<◌}
use lib.Dec.{leb}
use lib.ListN.{get_or, take, drop}
use lib.Pointwise.{pointwise}
use borrow.Author.Tests.{ltb-true, leb-true}
use Rattle.words.specs.Laws.Tests.{all_below, below_at}
use Rattle.sheets.specs.Text.{same_bytes}
use Rattle.sheets.specs.List.{sheet_names, NUMBERS, position_in}
use Rattle.sheets.specs.Laws.Text.{same_is}
use Rattle.sheets.specs.Laws.Steps.{listed_at}
use Rattle.sheets.proofs.text.Laws.{same_flipped}

-- the names that are lent
abbrev pub names_of : List (Bor (List ℕ)) → List (List ℕ)
names_of lent = map (λ (x : Bor (List ℕ)). x.now) lent

place_is : (name : List ℕ) (lent : List (Bor (List ℕ))) → position_in name (names_of lent) ≡ position_or_len (λ x. pointwise eqb x.now name) lent
unfolding position_in
place_is name lent =
    is_position_or_len (λ l. position_in name (names_of l)) (λ x. pointwise eqb x.now name) refl
    (λ x l. let one : suc (position_in name (names_of l)) ≡ 1 + position_in name (names_of l) = omega arith in
    ap₂ (λ t n. cond t 0 n) (same_flipped name x.now) one)
    lent

pub listed_as : (name : List ℕ) (lent : List (Bor (List ℕ))) → names_of lent ≡ sheet_names
    → cond (ltb (position_or_len (λ x. pointwise eqb x.now name) lent) (length lent)) (Some (position_or_len (λ x. pointwise eqb x.now name) lent)) None
    ≡ listed_at name
listed_as name lent e =
    let place = sym (place_is name lent) ∙ ap (position_in name) e in
    let many = sym (length-map lent (λ (x : Bor (List ℕ)). x.now)) ∙ ap length e in
    ap₂ (λ n m. cond (ltb n m) (Some n) None) place many

-- ---- the listed names, where they stand in one text: each begins where `starts` says and ends one byte before the next

-- the part between a start and the byte before the next one
abbrev pub part_from : List ℕ → List ℕ → ℕ → List ℕ
part_from text starts k = take (get_or starts (k + 1) 0 - 1 - get_or starts k 0) (drop (get_or starts k 0) text)

-- it is within the text, and it is the listed name
pub record NameAt (text starts : List ℕ) (k : ℕ) : Type 0 where
  pub less : get_or starts k 0 < get_or starts (k + 1) 0
  pub within : get_or starts (k + 1) 0 ≤ length text
  pub is : part_from text starts k ≡ get_or sheet_names k []

abbrev pub AllNames : List ℕ → List ℕ → Type 0
AllNames text starts = (k : ℕ) → k < NUMBERS → NameAt text starts k

-- that is computed
unfoldable pub is_name_at : List ℕ → List ℕ → ℕ → Bool
is_name_at text starts k =
    ltb (get_or starts k 0) (get_or starts (k + 1) 0)
    && (leb (get_or starts (k + 1) 0) (length text) && same_bytes (part_from text starts k) (get_or sheet_names k []))

pub all_names : (text starts : List ℕ) → all_below (is_name_at text starts) NUMBERS ≡ true → AllNames text starts
unfolding is_name_at
all_names text starts all k h =
    let from = get_or starts k 0 in
    let next = get_or starts (k + 1) 0 in
    let same = same_bytes (part_from text starts k) (get_or sheet_names k []) in
    let both = (and-eq-true_iff (ltb from next) (leb next (length text) && same)).0 (below_at (is_name_at text starts) NUMBERS all k h) in
    let rest = (and-eq-true_iff (leb next (length text)) same).0 both.1 in
    record {
      less = ltb-true from next both.0;
      within = leb-true next (length text) rest.0;
      is = same_is (part_from text starts k) (get_or sheet_names k []) rest.1;
    }
