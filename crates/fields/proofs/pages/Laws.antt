-- What the functions on pages do, step by step.
-- Assumes nothing.
use mathlib.Core.Path.{◌≡◌, sym, ap, ap₂, ◌∙◌}
use mathlib.Core.List.{List, ◌++◌, append_assoc, append-nil}
use Prim.Native.Nat.{ℕ, ◌+◌, ◌-◌, ◌^◌, ◌≤◌, ◌<◌}
use native.Mathlib.Omega.{arith}
use lib.IntN.{ℤ, pos}
use lib.ListN.{length, take, drop, replicate, length-append, length-drop, length-replicate, drop_of_length-le, replicate-append-replicate}
use lib.Pow.{pow_mono}
use lib.Seq.{take_at, drop_at, take_all, drop-drop}
use Rattle.words.specs.Bits.{value_of, bits_of, number_bytes}
use Rattle.words.specs.Laws.Digits.{length_bits}
use Rattle.fields.specs.Table.{bit_count}
use Rattle.fields.specs.Counts.{bits_of_counts}
use Rattle.fields.specs.Pages.{page_fields, page_counts, record_of, page_from}
use Rattle.fields.specs.CountsBack.{length_bits_of}
use Rattle.fields.specs.Laws.Counts.{value_below}
use Rattle.fields.specs.Laws.Pages.{few_counts, few_bits}
use Rattle.fields.proofs.counts.Laws.{number_put}
use Rattle.fields.specs.declared.pages.Kind.{Kind}
use Rattle.fields.specs.declared.table.Field.{Field}

-- ---- taking

-- at most eight bits stand for a byte
pub byte_of : (w : ℕ) (l : List ℕ) → w ≤ 8 → value_of (take w l) < 2 ^ 8
byte_of w l h =
    let most : 2 ^ w ≤ 2 ^ 8 = pow_mono {i = w} {j = 8} h in
    omega (arith, value_below w l)

-- what is left of what was the same all over
rest_same : {A : Type 0} (a : A) (m n : ℕ) → n ≤ m → drop n (replicate m a) ≡ replicate (m - n) a
rest_same {A} a m n h =
    let e : m ≡ n + (m - n) = omega arith in
    ap (drop n) (ap (λ (k : ℕ). replicate k a) e ∙ sym (replicate-append-replicate n (m - n) a))
    ∙ drop_at (replicate n a) (replicate (m - n) a) n (length-replicate n a)

-- counts read into the front of zeros
pub counts_are : (kind : Kind) (l : List ℕ) (n : ℕ) (new zeros : List ℤ) → n ≡ length (page_fields kind) → new ≡ page_counts kind l
    → zeros ≡ replicate 30 (pos 0) → new ++ drop n zeros ≡ (record_of kind l).counts
counts_are kind l n new zeros e f g =
    ap₂ (λ (x y : List ℤ). x ++ y) f
    (ap₂ (λ (k : ℕ) (x : List ℤ). drop k x) e g ∙ rest_same (pos 0) 30 (length (page_fields kind)) (few_counts kind))

-- bits copied into the front of zeros
pub carried_are : (kind : Kind) (l : List ℕ) (b : ℕ) (new zeros : List ℕ) → b ≡ bit_count (page_fields kind) → length l ≡ 250
    → new ≡ take (length l - (14 + b)) (drop (14 + b) l) → zeros ≡ replicate 236 0
    → new ++ drop (250 - (14 + b)) zeros ≡ (record_of kind l).bits
carried_are kind l b new zeros e n f g =
    let few = few_bits kind in
    let rest : List ℕ = drop (14 + b) l in
    let whole : take (length l - (14 + b)) rest ≡ rest = take_all (length l - (14 + b)) rest (omega (arith, length-drop (14 + b) l)) in
    let left : 236 - (250 - (14 + b)) ≡ 236 - (236 - bit_count (page_fields kind)) = omega arith in
    ap₂ (λ (x y : List ℕ). x ++ y)
    (f ∙ whole ∙ ap (λ (k : ℕ). drop (14 + k) l) e)
    (ap (drop (250 - (14 + b))) g ∙ rest_same 0 236 (250 - (14 + b)) (omega arith) ∙ ap (λ (k : ℕ). replicate k 0) left)

-- ---- putting

-- PRN and page number put before the body
pub head_put : (l first second : List ℕ) (prn number : ℕ) → length l ≡ 250 → prn < 2 ^ 8 → number < 64
    → first ≡ number_bytes l 0 8 prn → second ≡ number_bytes first 8 6 number
    → second ≡ bits_of 8 prn ++ (bits_of 6 number ++ drop 14 l)
head_put l first second prn number n p q e f =
    let one : first ≡ bits_of 8 prn ++ drop 8 l = e ∙ number_put l 0 8 prn (omega arith) p in
    let count : length first ≡ 250 = ap length one ∙ length-append (bits_of 8 prn) (drop 8 l) ∙ omega (arith, length_bits 8 prn, length-drop 8 l) in
    f ∙ number_put first 8 6 number (omega arith) (omega arith)
    ∙ ap₂ (λ (x y : List ℕ). x ++ bits_of 6 number ++ y) (ap (take 8) one ∙ take_at (bits_of 8 prn) (drop 8 l) 8 (length_bits 8 prn))
    (sym (drop-drop 6 8 first) ∙ ap (λ (x : List ℕ). drop 6 (drop 8 x)) one
    ∙ ap (drop 6) (drop_at (bits_of 8 prn) (drop 8 l) 8 (length_bits 8 prn)) ∙ drop-drop 6 8 l)
    ∙ append_assoc (bits_of 8 prn) (bits_of 6 number) (drop 14 l)

-- the body put behind them: its fields, and the bits that are carried as bits
pub page_put : (fs : List Field) (l head body new bits : List ℕ) (prn number b : ℕ) (zs : List ℤ) → length l ≡ 250 → length zs ≡ length fs
    → 14 + bit_count fs + length bits ≡ 250 → b ≡ bit_count fs → head ≡ bits_of 8 prn ++ (bits_of 6 number ++ drop 14 l)
    → body ≡ take 14 head ++ (bits_of_counts fs zs ++ drop (14 + bit_count fs) head)
    → new ≡ bits
    → take (14 + b) body ++ (new ++ drop (length body - (14 + b)) (drop (14 + b) body)) ≡ page_from prn number fs zs bits
page_put fs l head body new bits prn number b zs n m long e h g f =
    let p : List ℕ = bits_of 8 prn in
    let q : List ℕ = bits_of 6 number in
    let counts : List ℕ = bits_of_counts fs zs in
    let rest : List ℕ = drop (14 + bit_count fs) head in
    let eight : length p ≡ 8 = length_bits 8 prn in
    let six : length q ≡ 6 = length_bits 6 number in
    let both : length (p ++ q) ≡ 14 = length-append p q ∙ omega arith in
    let fields : length counts ≡ bit_count fs = length_bits_of fs zs m in
    let front : length ((p ++ q) ++ counts) ≡ 14 + b = length-append (p ++ q) counts ∙ omega arith in
    let head_is : head ≡ (p ++ q) ++ drop 14 l = h ∙ sym (append_assoc p q (drop 14 l)) in
    let head_long : length head ≡ 250 = ap length head_is ∙ length-append (p ++ q) (drop 14 l) ∙ omega (arith, length-drop 14 l) in
    let body_is : body ≡ ((p ++ q) ++ counts) ++ rest =
    g ∙ ap (λ (x : List ℕ). x ++ (counts ++ rest)) (ap (take 14) head_is ∙ take_at (p ++ q) (drop 14 l) 14 both)
    ∙ sym (append_assoc (p ++ q) counts rest) in
    let rest_long : length rest ≡ length bits = length-drop (14 + bit_count fs) head ∙ omega arith in
    let body_long : length body ≡ 250 = ap length body_is ∙ length-append ((p ++ q) ++ counts) rest ∙ omega arith in
    let behind : drop (14 + b) body ≡ rest = ap (drop (14 + b)) body_is ∙ drop_at ((p ++ q) ++ counts) rest (14 + b) front in
    let behind_long : length (drop (14 + b) body) ≡ length bits = ap length behind ∙ rest_long in
    ap₂ (λ (x y : List ℕ). x ++ y) (ap (take (14 + b)) body_is ∙ take_at ((p ++ q) ++ counts) rest (14 + b) front)
    (ap₂ (λ (x y : List ℕ). x ++ y)
    f
    (drop_of_length-le (drop (14 + b) body) {i = length body - (14 + b)} (omega arith)) ∙ append-nil bits)
    ∙ append_assoc (p ++ q) counts bits ∙ append_assoc p q (counts ++ bits)
