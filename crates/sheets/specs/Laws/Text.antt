-- Texts: the same bytes, the first byte of a kind, and the cut after each byte of a kind.
-- Assumes nothing.
use Rattle.std.specs.Prelude.{◌≡◌, refl, Bool, true, false, cond, List, [], ◌∷◌, ◌++◌, ℕ, suc, ◌+◌, ◌≤◌, ◌<◌, eqb, length, get_or, take, drop}
use Rattle.std.proofs.Common.{sym, ap, ap₂, ◌∙◌, append_assoc, add-one, arith, length-drop, drop-drop, eq-eqb, eqb-true}
use Rattle.std.proofs.Math.Bool.{and-eq-true_iff}
use Rattle.std.proofs.Math.Seq.{split_at}
use Rattle.sheets.specs.Text.{index_of, same_bytes, before_first, before_rest, parts_ended, after_last, ended_by}

-- ---- the same bytes

pub same_is : (a b : List ℕ) → same_bytes a b ≡ true → a ≡ b
unfolding same_bytes
same_is [] [] e = refl
same_is [] (y ∷ b) e = cc
same_is (x ∷ a) [] e = cc
same_is (x ∷ a) (y ∷ b) e =
    let both = (and-eq-true_iff (eqb x y) (same_bytes a b)).0 e in
    ap₂ (◌∷◌) (eqb-true x y both.0) (same_is a b both.1)

pub same_self : (a : List ℕ) → same_bytes a a ≡ true
unfolding same_bytes
same_self [] = refl
same_self (x ∷ a) = (and-eq-true_iff (eqb x x) (same_bytes a a)).1 (eq-eqb x x refl, same_self a)

pub same_not : (a b : List ℕ) → (a ≡ b → ⊥) → same_bytes a b ≡ false
same_not a b n = by_test (same_bytes a b) refl
  where
    by_test : (t : Bool) → same_bytes a b ≡ t → t ≡ false
    by_test true e = absurd (n (same_is a b e))
    by_test false e = refl

-- ---- one step of a count of all before the first that passes a test

pub count_le : (t : Bool) (n m : ℕ) → n ≤ m → cond t 0 (suc n) ≤ suc m
count_le true n m h = omega arith
count_le false n m h = omega arith

pub count_at : {A : Type 0} (t : Bool) (x y z : A) (l : List A) (n : ℕ) → (t ≡ true → x ≡ y) → (n < length l → get_or l n z ≡ y)
    → cond t 0 (suc n) < suc (length l) → get_or (x ∷ l) (cond t 0 (suc n)) z ≡ y
count_at true x y z l n e f h = e refl
count_at false x y z l n e f h = f (omega arith)

-- ---- the first byte b

pub index_first : (b : ℕ) (m : List ℕ) → index_of b (b ∷ m) ≡ 0
unfolding index_of
index_first b m = rw (eq-eqb b b refl)

index_other : (b x : ℕ) (l : List ℕ) → eqb x b ≡ false → index_of b (x ∷ l) ≡ suc (index_of b l)
unfolding index_of
index_other b x l e = rw e

-- where there is none, the first byte is another, and there is none behind it
none_by : (t : Bool) (n m : ℕ) → cond t 0 (suc n) ≡ suc m → (t ≡ false) × (n ≡ m)
none_by true n m e = absurd (omega arith)
none_by false n m e = (refl, omega arith)

none_on : (b x : ℕ) (l : List ℕ) → index_of b (x ∷ l) ≡ suc (length l) → (eqb x b ≡ false) × (index_of b l ≡ length l)
unfolding index_of
none_on b x l e = none_by (eqb x b) (index_of b l) (length l) e

none_first : (b x : ℕ) (l : List ℕ) → eqb x b ≡ false → index_of b l ≡ length l → index_of b (x ∷ l) ≡ suc (length l)
none_first b x l e n = index_other b x l e ∙ ap suc n

pub index_le : (b : ℕ) (l : List ℕ) → index_of b l ≤ length l
unfolding index_of
index_le b [] = omega arith
index_le b (x ∷ l) = count_le (eqb x b) (index_of b l) (length l) (index_le b l)

pub index_past : (b : ℕ) (l m : List ℕ) → index_of b l ≡ length l → index_of b (l ++ m) ≡ length l + index_of b m
index_past b [] m e = omega arith
index_past b (x ∷ l) m e =
    let other = none_on b x l e in
    omega (arith, index_other b x (l ++ m) other.0, index_past b l m other.1)

-- none before the first
take_by : (t : Bool) (b x n : ℕ) (l : List ℕ) → eqb x b ≡ t → index_of b (take n l) ≡ length (take n l)
    → index_of b (take (cond t 0 (suc n)) (x ∷ l)) ≡ length (take (cond t 0 (suc n)) (x ∷ l))
unfolding index_of
take_by true b x n l e f = refl
take_by false b x n l e f = none_first b x (take n l) e f

pub index_take : (b : ℕ) (l : List ℕ) → index_of b (take (index_of b l) l) ≡ length (take (index_of b l) l)
unfolding index_of
index_take b [] = refl
index_take b (x ∷ l) = take_by (eqb x b) b x (index_of b l) l refl (index_take b l)

pub index_at : (b : ℕ) (l : List ℕ) → index_of b l < length l → get_or l (index_of b l) 0 ≡ b
unfolding index_of
index_at b [] h = absurd (omega arith)
index_at b (x ∷ l) h = count_at (eqb x b) x b 0 l (index_of b l) (eqb-true x b) (index_at b l) h

pub index_cut : (b : ℕ) (l : List ℕ) → index_of b l < length l → l ≡ take (index_of b l) l ++ b ∷ drop (index_of b l + 1) l
index_cut b l h =
    let n = index_of b l in
    split_at l n 0 h
    ∙ ap (λ (x : ℕ). take n l ++ x ∷ drop (suc n) l) (index_at b l h)
    ∙ ap (λ (k : ℕ). take n l ++ b ∷ drop k l) (sym (add-one n))

-- ---- the cut, at the first byte b, and where there is none

parts_on : (b x : ℕ) (l : List ℕ) → eqb x b ≡ false → parts_ended b (x ∷ l) ≡ before_first x (parts_ended b l)
unfolding parts_ended
parts_on b x l e = rw e

rest_on : (b x : ℕ) (l : List ℕ) → eqb x b ≡ false → after_last b (x ∷ l) ≡ before_rest x (parts_ended b l) (after_last b l)
unfolding after_last
rest_on b x l e = rw e

pub parts_at : (b : ℕ) (part l : List ℕ) → index_of b part ≡ length part → parts_ended b (part ++ b ∷ l) ≡ part ∷ parts_ended b l
unfolding parts_ended
parts_at b [] l e = rw (eq-eqb b b refl)
parts_at b (x ∷ part) l e =
    let other = none_on b x part e in
    parts_on b x (part ++ b ∷ l) other.0 ∙ ap (before_first x) (parts_at b part l other.1)

pub rest_at : (b : ℕ) (part l : List ℕ) → index_of b part ≡ length part → after_last b (part ++ b ∷ l) ≡ after_last b l
unfolding after_last
rest_at b [] l e = rw (eq-eqb b b refl)
rest_at b (x ∷ part) l e =
    let other = none_on b x part e in
    rest_on b x (part ++ b ∷ l) other.0
    ∙ ap (λ (parts : List (List ℕ)). before_rest x parts (after_last b (part ++ b ∷ l))) (parts_at b part l other.1)
    ∙ rest_at b part l other.1

pub parts_none : (b : ℕ) (l : List ℕ) → index_of b l ≡ length l → parts_ended b l ≡ []
unfolding parts_ended
parts_none b [] e = refl
parts_none b (x ∷ l) e =
    let other = none_on b x l e in
    parts_on b x l other.0 ∙ ap (before_first x) (parts_none b l other.1)

pub rest_none : (b : ℕ) (l : List ℕ) → index_of b l ≡ length l → after_last b l ≡ l
unfolding after_last
rest_none b [] e = refl
rest_none b (x ∷ l) e =
    let other = none_on b x l e in
    rest_on b x l other.0 ∙ ap₂ (before_rest x) (parts_none b l other.1) (rest_none b l other.1)

-- a list with the byte b is its first part, and the list behind it
pub parts_cut : (b : ℕ) (l : List ℕ) → index_of b l < length l
    → parts_ended b l ≡ take (index_of b l) l ∷ parts_ended b (drop (index_of b l + 1) l)
parts_cut b l h =
    let n = index_of b l in
    ap (parts_ended b) (index_cut b l h) ∙ parts_at b (take n l) (drop (n + 1) l) (index_take b l)

pub rest_cut : (b : ℕ) (l : List ℕ) → index_of b l < length l → after_last b l ≡ after_last b (drop (index_of b l + 1) l)
rest_cut b l h =
    let n = index_of b l in
    ap (after_last b) (index_cut b l h) ∙ rest_at b (take n l) (drop (n + 1) l) (index_take b l)

-- the same from a place on, as a loop finds the next end
pub parts_from : (b : ℕ) (l : List ℕ) (at n : ℕ) → n ≡ index_of b (drop at l) → at + n < length l
    → parts_ended b (drop at l) ≡ take n (drop at l) ∷ parts_ended b (drop (at + n + 1) l)
parts_from b l at n e h =
    let next : at + (n + 1) ≡ at + n + 1 = omega arith in
    parts_cut b (drop at l) (omega (arith, length-drop at l))
    ∙ ap (λ (k : ℕ). take k (drop at l) ∷ parts_ended b (drop (k + 1) (drop at l))) (sym e)
    ∙ ap (λ (m : List ℕ). take n (drop at l) ∷ parts_ended b m) (drop-drop (n + 1) at l ∙ ap (λ (k : ℕ). drop k l) next)

-- ---- parts without the byte b

-- every part is without the byte
abbrev pub Without : ℕ → List (List ℕ) → Type 0
Without b [] = Unit {0}
Without b (part ∷ parts) = (index_of b part ≡ length part) × Without b parts

-- ---- parts with their ends behind them

pub ended_append : (b : ℕ) (ps qs : List (List ℕ)) → ended_by b (ps ++ qs) ≡ ended_by b ps ++ ended_by b qs
unfolding ended_by
ended_append b [] qs = refl
ended_append b (p ∷ ps) qs =
    ap (λ (l : List ℕ). p ++ b ∷ l) (ended_append b ps qs) ∙ sym (append_assoc p (b ∷ ended_by b ps) (ended_by b qs))

back_on : (b x : ℕ) (l rest : List ℕ) (parts : List (List ℕ)) → l ≡ ended_by b parts ++ rest
    → x ∷ l ≡ ended_by b (before_first x parts) ++ before_rest x parts rest
unfolding ended_by
back_on b x l rest [] e = ap (λ (m : List ℕ). x ∷ m) e
back_on b x l rest (part ∷ parts) e = ap (λ (m : List ℕ). x ∷ m) e

back_by : (t : Bool) (b x : ℕ) (l rest : List ℕ) (parts : List (List ℕ)) → eqb x b ≡ t → l ≡ ended_by b parts ++ rest
    → x ∷ l ≡ ended_by b (cond t ([] ∷ parts) (before_first x parts)) ++ cond t rest (before_rest x parts rest)
unfolding ended_by
back_by true b x l rest parts e f = ap₂ (◌∷◌) (eqb-true x b e) f
back_by false b x l rest parts e f = back_on b x l rest parts f

-- the parts of a cut, and what stands after the last, are the whole
pub parts_back : (b : ℕ) (l : List ℕ) → l ≡ ended_by b (parts_ended b l) ++ after_last b l
unfolding ended_by parts_ended after_last
parts_back b [] = refl
parts_back b (x ∷ l) = back_by (eqb x b) b x l (after_last b l) (parts_ended b l) refl (parts_back b l)

-- and each part that was put together is cut off again
pub parts_of : (b : ℕ) (parts : List (List ℕ)) (rest : List ℕ) → Without b parts → index_of b rest ≡ length rest
    → parts_ended b (ended_by b parts ++ rest) ≡ parts
unfolding ended_by
parts_of b [] rest w n = parts_none b rest n
parts_of b (part ∷ parts) rest w n =
    ap (parts_ended b) (append_assoc part (b ∷ ended_by b parts) rest)
    ∙ parts_at b part (ended_by b parts ++ rest) w.0
    ∙ ap (λ (l : List (List ℕ)). part ∷ l) (parts_of b parts rest w.1 n)

pub rest_of : (b : ℕ) (parts : List (List ℕ)) (rest : List ℕ) → Without b parts → index_of b rest ≡ length rest
    → after_last b (ended_by b parts ++ rest) ≡ rest
unfolding ended_by
rest_of b [] rest w n = rest_none b rest n
rest_of b (part ∷ parts) rest w n =
    ap (after_last b) (append_assoc part (b ∷ ended_by b parts) rest)
    ∙ rest_at b part (ended_by b parts ++ rest) w.0
    ∙ rest_of b parts rest w.1 n
