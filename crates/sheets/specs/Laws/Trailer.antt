-- The trailer: it is found where it is written, and bytes that end with one are what stands before the sheet, its lines, and the trailer
-- that is written after them.
-- Assumes nothing.
use Rattle.std.specs.Prelude.{◌≡◌, refl, true, ◌&&◌, ℕ, ◌+◌, ◌-◌, ◌*◌, ◌/◌, ◌%◌, ◌≤◌, ◌<◌, eqb, get_or}
use Rattle.std.proofs.Math.Path.{sym, ap}
use Rattle.std.proofs.Common.{ap₂, ◌∙◌, arith, length-append, take-append-drop, drop_of_length-le, take_at, drop_at, drop-cons}
use Rattle.std.proofs.Math.Bool.{and-eq-true_iff}
use mathlib.Core.List.{List, [], ◌∷◌, ◌++◌, append_assoc}
use Rattle.std.proofs.Math.Dec.{leb}
use Rattle.std.proofs.Math.ListN.{length, take, drop, length-take, length-drop}
use Rattle.std.proofs.Math.Seq.{drop-append_seam, drop-drop}
use borrow.Author.Tests.{le-leb, eqb-true, leb-true}
use Rattle.sheets.specs.Text.{LINE_END, bytes_in, same_bytes}
use Rattle.sheets.specs.Number.{is_digit, all_digits, decimal_from, decimal_in}
use Rattle.sheets.specs.Trailer.{TRAILER_BYTES, MOST_BYTES, trailer_place, digits_in, is_trailer, trailer_count, has_trailer, start_of, lines_bytes, trailer_text}
use Rattle.sheets.specs.Laws.Text.{same_is}

-- ---- five digits

-- the digits of the trailer after n bytes
abbrev five_text : ℕ → List ℕ
five_text n = (48 + n / 10000 % 10) ∷ (48 + n / 1000 % 10) ∷ (48 + n / 100 % 10) ∷ (48 + n / 10 % 10) ∷ (48 + n % 10) ∷ []

digit_is : (d : ℕ) → d < 10 → is_digit (48 + d) ≡ true
digit_is d h = rw (le-leb 48 (48 + d) (omega arith), le-leb (48 + d) 57 (omega arith))

-- they are digits, and stand for n
five_digits : (n : ℕ) → all_digits (five_text n) ≡ true
unfolding all_digits
five_digits n =
    rw (
      digit_is (n / 10000 % 10) (omega arith),
      digit_is (n / 1000 % 10) (omega arith),
      digit_is (n / 100 % 10) (omega arith),
      digit_is (n / 10 % 10) (omega arith),
      digit_is (n % 10) (omega arith),
    )

tens : (n : ℕ) → (n / 100 ≡ n / 10 / 10) × (n / 1000 ≡ n / 100 / 10) × (n / 10000 ≡ n / 1000 / 10)
tens n = (omega arith, omega arith, omega arith)

five_value : (n : ℕ) → n ≤ MOST_BYTES → decimal_in (five_text n) ≡ n
unfolding decimal_from
five_value n h =
    let w = tens n in
    let small : n / 10000 ≡ 0 = omega arith in
    omega arith

digits_on : (b : ℕ) (l : List ℕ) → all_digits (b ∷ l) ≡ true → (48 ≤ b) × (b ≤ 57) × (all_digits l ≡ true)
unfolding all_digits
digits_on b l e =
    let p = (and-eq-true_iff (is_digit b) (all_digits l)).0 e in
    let q = (and-eq-true_iff (leb 48 b) (leb b 57)).0 p.0 in
    (leb-true 48 b q.0, leb-true b 57 q.1, p.1)

-- division by ten takes the last digit off
digit_off : (acc b : ℕ) → 48 ≤ b → b ≤ 57 → ((acc * 10 + (b - 48)) / 10 ≡ acc) × (b ≡ 48 + (acc * 10 + (b - 48)) % 10)
digit_off acc b h k = (omega arith, omega arith)

-- five digits are those of the number that they stand for
five_back : (l : List ℕ) → length l ≡ 5 → all_digits l ≡ true → l ≡ five_text (decimal_in l)
unfolding all_digits decimal_from
five_back [] h e = absurd (omega arith)
five_back (a ∷ []) h e = absurd (omega arith)
five_back (a ∷ b ∷ []) h e = absurd (omega arith)
five_back (a ∷ b ∷ c ∷ []) h e = absurd (omega arith)
five_back (a ∷ b ∷ c ∷ d ∷ []) h e = absurd (omega arith)
five_back (a ∷ b ∷ c ∷ d ∷ f ∷ []) h e =
    let p = digits_on a (b ∷ c ∷ d ∷ f ∷ []) e in
    let q = digits_on b (c ∷ d ∷ f ∷ []) p.2 in
    let r = digits_on c (d ∷ f ∷ []) q.2 in
    let s = digits_on d (f ∷ []) r.2 in
    let t = digits_on f [] s.2 in
    let two = (0 + (a - 48)) * 10 + (b - 48) in
    let three = two * 10 + (c - 48) in
    let four = three * 10 + (d - 48) in
    let i = digit_off 0 a p.0 p.1 in
    let j = digit_off (0 + (a - 48)) b q.0 q.1 in
    let k = digit_off two c r.0 r.1 in
    let l = digit_off three d s.0 s.1 in
    let m = digit_off four f t.0 t.1 in
    let w = tens (four * 10 + (f - 48)) in
    cc
five_back (a ∷ b ∷ c ∷ d ∷ f ∷ g ∷ l) h e = absurd (omega arith)

-- ---- eleven bytes

pub trailer_long : (n : ℕ) → length (trailer_text n) ≡ TRAILER_BYTES
unfolding trailer_text
trailer_long n = refl

-- what is written is a trailer
text_is : (n : ℕ) → is_trailer (trailer_text n) ≡ true
unfolding is_trailer trailer_text same_bytes
text_is n = rw (five_digits n)

text_counts : (n : ℕ) → n ≤ MOST_BYTES → decimal_in (digits_in (trailer_text n)) ≡ n
unfolding trailer_text
text_counts n h = five_value n h

-- and a trailer is what is written
text_only : (t : List ℕ) → length t ≡ TRAILER_BYTES → is_trailer t ≡ true → t ≡ trailer_text (decimal_in (digits_in t))
unfolding is_trailer trailer_text
text_only t h e =
    let p = (and-eq-true_iff (same_bytes (take 5 t) (bytes_in "back ")) (all_digits (digits_in t) && eqb (get_or t 10 0) LINE_END)).0 e in
    let q = (and-eq-true_iff (all_digits (digits_in t)) (eqb (get_or t 10 0) LINE_END)).0 p.1 in
    let five : length (digits_in t) ≡ 5 = omega (arith, length-take 5 (drop 5 t), length-drop 5 t) in
    let end : drop 5 (drop 5 t) ≡ LINE_END ∷ [] =
    drop-drop 5 5 t
    ∙ drop-cons t 10 0 (omega arith)
    ∙ ap₂ (◌∷◌) (eqb-true (get_or t 10 0) LINE_END q.1) (drop_of_length-le t {i = 11} (omega arith)) in
    sym (take-append-drop 5 t)
    ∙ ap₂ (◌++◌) (same_is (take 5 t) (bytes_in "back ") p.0)
    (sym (take-append-drop 5 (drop 5 t)) ∙ ap₂ (◌++◌) (five_back (digits_in t) five q.0) end)

-- ---- bytes that end with a trailer

-- what has_trailer tests
record Ends (s : List ℕ) : Type 0 where
  long : TRAILER_BYTES ≤ length s
  last : is_trailer (drop (trailer_place s) s) ≡ true
  few : trailer_count s ≤ MOST_BYTES
  inside : trailer_count s ≤ trailer_place s

ends_has : (s : List ℕ) → Ends s → has_trailer s ≡ true
unfolding has_trailer
ends_has s o =
    rw (
      le-leb TRAILER_BYTES (length s) o.long,
      o.last,
      le-leb (trailer_count s) MOST_BYTES o.few,
      le-leb (trailer_count s) (trailer_place s) o.inside,
    )

module _ (s : List ℕ) (e : has_trailer s ≡ true) where
  has_ends : Ends s
  unfolding has_trailer
  has_ends =
      let few = leb (trailer_count s) MOST_BYTES in
      let inside = leb (trailer_count s) (trailer_place s) in
      let p = (and-eq-true_iff (leb TRAILER_BYTES (length s)) (is_trailer (drop (trailer_place s) s) && (few && inside))).0 e in
      let q = (and-eq-true_iff (is_trailer (drop (trailer_place s) s)) (few && inside)).0 p.1 in
      let r = (and-eq-true_iff few inside).0 q.1 in
      record {
        long = leb-true TRAILER_BYTES (length s) p.0;
        last = q.0;
        few = leb-true (trailer_count s) MOST_BYTES r.0;
        inside = leb-true (trailer_count s) (trailer_place s) r.1;
      }

  start_is : start_of s ≡ trailer_place s - trailer_count s
  unfolding start_of
  start_is = rw e

  pub start_before : start_of s + TRAILER_BYTES ≤ length s
  start_before = let o = has_ends in omega (arith, start_is)

  -- the lines have as many bytes as the trailer counts
  lines_long : length (lines_bytes s) ≡ trailer_count s
  unfolding lines_bytes
  lines_long =
      let o = has_ends in
      let n = trailer_place s - start_of s in
      omega (arith, length-take n (drop (start_of s) s), length-drop (start_of s) s, start_is)

  pub trailer_few : length (lines_bytes s) ≤ MOST_BYTES
  trailer_few = let o = has_ends in omega (arith, lines_long)

  -- the last eleven are the trailer as it is written after the lines
  last_text : drop (trailer_place s) s ≡ trailer_text (length (lines_bytes s))
  unfolding trailer_count
  last_text =
      let o = has_ends in
      let t = drop (trailer_place s) s in
      text_only t (omega (arith, length-drop (trailer_place s) s)) o.last ∙ ap trailer_text (sym lines_long)

  -- the bytes are what stands before the sheet, its lines, and that trailer
  pub trailer_only : s ≡ take (start_of s) s ++ (lines_bytes s ++ trailer_text (length (lines_bytes s)))
  unfolding lines_bytes
  trailer_only =
      let n = trailer_place s - start_of s in
      let place : start_of s + n ≡ trailer_place s = omega (arith, start_before) in
      let rest : drop n (drop (start_of s) s) ≡ trailer_text (length (lines_bytes s)) =
      drop-drop n (start_of s) s ∙ ap (λ (k : ℕ). drop k s) place ∙ last_text in
      sym (take-append-drop (start_of s) s)
      ∙ ap (λ (x : List ℕ). take (start_of s) s ++ x)
      (sym (take-append-drop n (drop (start_of s) s)) ∙ ap (λ (x : List ℕ). lines_bytes s ++ x) rest)

-- ---- a trailer behind the bytes that it counts

module _ (front body : List ℕ) (h : length body ≤ MOST_BYTES) where
  abbrev whole : List ℕ
  whole = front ++ (body ++ trailer_text (length body))

  whole_long : length whole ≡ length front + length body + TRAILER_BYTES
  whole_long =
      let t = trailer_text (length body) in
      omega (arith, length-append front (body ++ t), length-append body t, trailer_long (length body))

  last_is : drop (trailer_place whole) whole ≡ trailer_text (length body)
  last_is =
      ap (drop (trailer_place whole)) (sym (append_assoc front body (trailer_text (length body))))
      ∙ drop_at (front ++ body) (trailer_text (length body)) (trailer_place whole) (omega (arith, whole_long, length-append front body))

  count_is : trailer_count whole ≡ length body
  unfolding trailer_count
  count_is = ap (λ (t : List ℕ). decimal_in (digits_in t)) last_is ∙ text_counts (length body) h

  pub trailer_has : has_trailer (front ++ (body ++ trailer_text (length body))) ≡ true
  trailer_has =
      ends_has whole (record {
        long = omega (arith, whole_long);
        last = ap is_trailer last_is ∙ text_is (length body);
        few = omega (arith, count_is);
        inside = omega (arith, count_is, whole_long);
      })

  pub trailer_start : start_of (front ++ (body ++ trailer_text (length body))) ≡ length front
  trailer_start = omega (arith, start_is whole trailer_has, count_is, whole_long)

  pub trailer_lines : lines_bytes (front ++ (body ++ trailer_text (length body))) ≡ body
  unfolding lines_bytes
  trailer_lines =
      rw (trailer_start, drop-append_seam front (body ++ trailer_text (length body)))
      (take_at body (trailer_text (length body)) (trailer_place whole - length front) (omega (arith, whole_long)))
