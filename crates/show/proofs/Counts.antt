-- What `==` says of two lists of counts, and of parts of them: by the laws on parts the wrong programs of `same_counts` are refused for how
-- much they compare, since the same with the whole is proved.
-- Assumes nothing.
use Rattle.std.proofs.Common.{◌≡◌, Bool, List, ℕ, ℤ, ◌≤◌, length, take, drop, ◌∙◌, sym}
use lib.Seq.{take_all}
use Rattle.std.specs.Cmp.Lexicographic.{pointwise}
use Rattle.std.specs.Ordering.{int_eq}
use Rattle.std.proofs.lemmas.Bool.{false≢true}
use Rattle.std.proofs.lemmas.Bool.Decides.{Decides-int_eq}
use Rattle.std.proofs.lemmas.Slice.Eq.{slice_eq-Decides}
use Rattle.show.specs.Counts.{SameCounts}

pub counts_compared : (r : Bool) (a b : List ℤ) → r ≡ pointwise int_eq a b → SameCounts r a b
counts_compared r a b e =
    let says = slice_eq-Decides Decides-int_eq a b r e in
    record { same = says.0; other = λ not same. false≢true (sym not ∙ says.1 same) }

-- the same of the first n of `a`, which are all
pub taken_compared : (r : Bool) (a b : List ℤ) (n : ℕ) → length a ≤ n → r ≡ pointwise int_eq (take n a) b → SameCounts r a b
taken_compared r a b n h e = counts_compared r a b (rw (take_all n a h) at e)

-- the same of what stands behind the first m and n, which are none
pub behind_compared : (r : Bool) (a b : List ℤ) (m n p q : ℕ) → m ≡ 0 → n ≡ 0 → length a ≤ p → length b ≤ q
    → r ≡ pointwise int_eq (take p (drop m a)) (take q (drop n b)) → SameCounts r a b
behind_compared r a b m n p q e f h k g =
    let same = rw (e, f) at g in counts_compared r a b (rw (take_all p a h, take_all q b k) at same)
