-- What the turns of the loops keep, and what putting check bits leaves.
-- Assumes nothing.
use mathlib.Core.Path.{◌≡◌, refl, sym, ap, ap₂, ◌∙◌}
use mathlib.Core.Bool.{Bool, true}
use mathlib.Core.List.{List, ◌++◌, append-nil}
use Prim.Native.Nat.{ℕ, suc, ◌+◌, ◌-◌, ◌^◌, ◌≤◌, ◌<◌}
use native.Mathlib.Numerals.{add-one}
use native.Mathlib.Omega.{arith}
use lib.Dec.{leb}
use lib.ListN.{length, get_or, take, drop, replicate, drop_of_length-le}
use lib.Seq.{drop-cons, sets, sets-eq}
use borrow.Author.Tests.{le-leb, lt-ltb}
use Rattle.words.specs.Bits.{bits_of, fits_number, put_answer, put_bytes}
use Rattle.words.specs.Crc.{fed, remainder_from, remainder_of, check_of, block_of, check_answer, check_bytes}
use Rattle.words.specs.Laws.Crc.{remainder_append, check_lt}
use Rattle.words.specs.Laws.Digits.{length_bits}
use Rattle.words.specs.Laws.Puts.{done_leaves}
use Rattle.words.specs.Refusal.{Answer}

-- ---- bits from a place on

pub bit_fed : (l : List ℕ) (i r : ℕ) → i < length l → remainder_from r (drop i l) ≡ remainder_from (fed r (get_or l i 0)) (drop (i + 1) l)
bit_fed l i r h =
    ap (remainder_from r) (drop-cons l i 0 h) ∙ ap (λ (n : ℕ). remainder_from (fed r (get_or l i 0)) (drop n l)) (sym (add-one i))

-- ---- zeros still to come

pub zero_fed : (r k : ℕ) → k < 24 → remainder_from r (replicate (24 - k) 0) ≡ remainder_from (fed r 0) (replicate (24 - (k + 1)) 0)
zero_fed r k h = ap (λ (n : ℕ). remainder_from r (replicate n 0)) (let e : 24 - k ≡ suc (24 - (k + 1)) = omega arith in e)

pub check_is : (l : List ℕ) → remainder_from (remainder_of l) (replicate 24 0) ≡ check_of l
unfolding check_of
check_is l = sym (remainder_append 0 l (replicate 24 0))

-- ---- the last 24 places

block_is : (l : List ℕ) (n : ℕ) → 24 ≤ length l → n ≡ check_of (take (length l - 24) l)
    → sets l (length l - 24) (bits_of 24 n) ≡ block_of (take (length l - 24) l)
unfolding block_of
block_is l n h e =
    let count = length_bits 24 n in
    sets-eq (bits_of 24 n) l (length l - 24) (omega arith)
    ∙ ap₂ (λ (x y : List ℕ). take (length l - 24) l ++ x ++ y) (ap (bits_of 24) e) (drop_of_length-le l {i = length l - 24 + length (bits_of 24 n)} (omega arith))
    ∙ append-nil (take (length l - 24) l ++ bits_of 24 (check_of (take (length l - 24) l)))

check_fits : (l : List ℕ) (n : ℕ) → 24 ≤ length l → n ≡ check_of (take (length l - 24) l) → fits_number l (length l - 24) 24 n ≡ true
check_fits l n h e =
    rw (
      le-leb (length l - 24 + 24) (length l) (omega arith),
      lt-ltb n (2 ^ 24) (omega (arith, check_lt (take (length l - 24) l))),
    ) refl

pub check_put : (l : List ℕ) (n : ℕ) (r : Answer) (out : List ℕ) → 24 ≤ length l → n ≡ check_of (take (length l - 24) l)
    → r ≡ put_answer (fits_number l (length l - 24) 24 n)
    → out ≡ put_bytes (fits_number l (length l - 24) 24 n) l (length l - 24) (bits_of 24 n)
    → (r ≡ check_answer l) × (out ≡ check_bytes l)
check_put l n r out h e f g =
    let fits = check_fits l n h e in
    done_leaves (leb 24 (length l)) r l out (block_of (take (length l - 24) l)) (le-leb 24 (length l) h) (f ∙ ap put_answer fits)
    (g ∙ ap (λ (t : Bool). put_bytes t l (length l - 24) (bits_of 24 n)) fits ∙ block_is l n h e)
