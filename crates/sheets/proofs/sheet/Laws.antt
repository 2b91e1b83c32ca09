-- Reading lines from a place on: what is read of a line against its answer, and how far reading has come.
-- Assumes nothing.
use Rattle.std.specs.Prelude.{map, Option, Some, None, is_some, is_none, unwrap_or, Result, Ok, Err}
use Rattle.std.specs.List.{position_or_len, IsFirstMatchOrLen}
use Rattle.std.proofs.lemmas.List.{take-append-le, get_or_append_left}
use Rattle.std.proofs.lemmas.List.Sums.{position_or_len_is, fails_before_first}
use Rattle.std.specs.Fn.{ComputesKey}
use Rattle.std.specs.Result.{MatchResult, IsErrAnd}
use denote.Ref.{Bor}
use denote.Param.Members.{Mut}
use lib.Pointwise.{pointwise}
use Rattle.sheets.proofs.text.Laws.{index_is}
use mathlib.Core.Path.{◌≡◌, refl, sym, ap, ap₂, subst, ◌∙◌}
use mathlib.Core.Bool.{Bool, true, false, cond, not, and-true}
use mathlib.Core.List.{List, [], ◌∷◌, ◌++◌, append-nil, append_assoc}
use Prim.Native.Nat.{ℕ, suc, min, ◌+◌, ◌-◌, ◌≤◌, ◌<◌}
use native.Mathlib.Decide.{dec_lt, dec_le}
use native.Mathlib.Omega.{arith}
use borrow.Author.Tests.{ltb-true, ltb-false, lt-ltb, le-ltb, eq-eqb, ne_eqb}
use lib.Dec.{eqb, ltb}
use lib.IntN.{ℤ, pos}
use lib.ListN.{length, get_or, take, drop, replicate, set, length-drop, length-append, get_or-eq_default, drop_of_length-le}
use lib.Seq.{length-take-le, drop-drop, drop-cons, drop-append_seam}
use Rattle.words.specs.Refusal.{LINE, NAME, NAME_AGAIN, NUMBER, NAME_MISSING, refused_at, done_if, in_turn, Answer, Done}
use Rattle.fields.specs.Table.{subframe2_rows}
use Rattle.sheets.specs.Text.{LINE_END, index_of, parts_ended, after_last}
use Rattle.sheets.specs.List.{NUMBERS, sheet_rows, sheet_names, position_in}
use Rattle.sheets.specs.Number.{value_in, is_number_of}
use Rattle.sheets.specs.Lines.{has_equals, name_in, behind_equals, is_listed, field_named, is_given, number_given, given_in, numbers_in, line_answer, first_missing, missing_answer, lines_answer, lines_in, body_answer}
use Rattle.sheets.specs.Sheet.{sheet_is, sheet_by}
use Rattle.sheets.specs.Laws.Steps.{named_line, line_by, line_read, finished_sheet}
use Rattle.words.specs.Refusal.{number}
use Rattle.words.specs.declared.refusal.Rule.{Rule}
use Rattle.words.specs.declared.refusal.Rule.TheVariants.{Line, Name, NameAgain}
use Rattle.sheets.specs.Laws.Text.{index_le, index_at, parts_none, rest_none, parts_from, rest_cut}
use Rattle.sheets.specs.Laws.List.{position_name}
use Rattle.sheets.specs.Laws.Lines.{given_many, missing_le, found_in, found_many, found_at, found_set, missing_found, numbers_or}

-- ---- a line

-- the answer to a line at a place, by what was read of it
abbrev answer_by : ℕ → Result (ℕ × ℤ) Rule → Answer
answer_by place (Ok (k, z)) = Done
answer_by place (Err rule) = refused_at (number rule) place

-- what is read of a line by four tests: it has its `=`, its name is listed, its name is given, its number is right
abbrev read_by : Bool → Bool → Bool → Bool → ℕ → ℤ → Result (ℕ × ℤ) Rule
read_by equals listed again right k z =
    cond equals (cond listed (cond again (Err NameAgain) (line_by k (cond right (Some z) None))) (Err Name)) (Err Line)

answer_tests : (equals listed given again right : Bool) (place k : ℕ) (z : ℤ) → (listed ≡ true → again ≡ given)
    → in_turn (done_if equals LINE place)
    (in_turn (done_if listed NAME place) (in_turn (done_if (not given) NAME_AGAIN place) (done_if right NUMBER place)))
    ≡ answer_by place (read_by equals listed again right k z)
answer_tests false listed given again right place k z h = refl
answer_tests true false given again right place k z h = refl
answer_tests true true true again right place k z h = rw (h refl)
answer_tests true true false again true place k z h = rw (h refl)
answer_tests true true false again false place k z h = rw (h refl)

gives_tests : (equals listed again right : Bool) (i k : ℕ) (y z : ℤ) → read_by equals listed again right i y ≡ Ok (k, z)
    → (listed ≡ true) × (again ≡ false) × (i ≡ k) × (y ≡ z)
gives_tests false listed again right i k y z e = let w : ◌≡◌ {A = ℕ} 0 1 = cc in absurd (omega arith)
gives_tests true false again right i k y z e = let w : ◌≡◌ {A = ℕ} 0 1 = cc in absurd (omega arith)
gives_tests true true true right i k y z e = let w : ◌≡◌ {A = ℕ} 0 1 = cc in absurd (omega arith)
gives_tests true true false false i k y z e = let w : ◌≡◌ {A = ℕ} 0 1 = cc in absurd (omega arith)
gives_tests true true false true i k y z e =
    let p : ◌≡◌ {A = ℕ × ℤ} (i, y) (k, z) = cc in
    (refl, refl, ap (λ (q : ℕ × ℤ). q.0) p, ap (λ (q : ℕ × ℤ). q.1) p)

module _ (earlier : List (List ℕ)) (line : List ℕ) where
  abbrev position : ℕ
  position = position_in (name_in line) sheet_names

  given_there : is_listed (name_in line) ≡ true → is_some (get_or (found_in earlier) position None) ≡ is_given (name_in line) earlier
  given_there e =
      let below = ltb-true position (length sheet_names) e in
      found_at earlier position below ∙ ap (λ (name : List ℕ). is_given name earlier) (position_name (name_in line) sheet_names below)

  line_answer_lem : (place : ℕ) → line_answer earlier place line ≡ answer_by place (line_read line (found_in earlier))
  unfolding line_answer line_read named_line
  line_answer_lem place =
      answer_tests
      (has_equals line)
      (is_listed (name_in line))
      (is_given (name_in line) earlier)
      (is_some (get_or (found_in earlier) position None))
      (is_number_of (field_named (name_in line)) (behind_equals line))
      place
      position
      (value_in (behind_equals line))
      given_there

  -- a line that gives a number: one name more is given
  module _ (k : ℕ) (z : ℤ) (e : line_read line (found_in earlier) ≡ Ok (k, z)) where
    facts : (is_listed (name_in line) ≡ true)
        × (is_some (get_or (found_in earlier) position None) ≡ false)
        × (position ≡ k)
        × (value_in (behind_equals line) ≡ z)
    unfolding line_read named_line
    facts =
        gives_tests
        (has_equals line)
        (is_listed (name_in line))
        (is_some (get_or (found_in earlier) position None))
        (is_number_of (field_named (name_in line)) (behind_equals line))
        position
        k
        (value_in (behind_equals line))
        z
        e

    listed : position < length sheet_names
    listed = ltb-true position (length sheet_names) facts.0

    gives_listed : k < length sheet_names
    gives_listed = omega (arith, listed, facts.2)

    gives_found : set (found_in earlier) k (Some z) ≡ found_in (earlier ++ line ∷ [])
    gives_found =
        ap₂ (λ (i : ℕ) (y : ℤ). set (found_in earlier) i (Some y)) (sym facts.2) (sym facts.3)
        ∙ found_set earlier line listed (sym (given_there facts.0) ∙ facts.1)

-- ---- the lines of the bytes from a place on

-- the answer to them, after the lines before them
abbrev pub answer_from : List (List ℕ) → List ℕ → ℕ → Answer
answer_from earlier l at = lines_answer earlier at (lines_in (drop at l)) (after_last LINE_END (drop at l))

module _ (earlier : List (List ℕ)) (l : List ℕ) (at n : ℕ) (e : n ≡ index_of LINE_END (drop at l)) where
  abbrev line : List ℕ
  line = take n (drop at l)

  answer_endless : at < length l → at + n ≡ length l → answer_from earlier l at ≡ refused_at LINE at
  unfolding lines_answer
  answer_endless h f =
      let none : index_of LINE_END (drop at l) ≡ length (drop at l) = omega (arith, e, length-drop at l) in
      let some : eqb (length (drop at l)) 0 ≡ false = ne_eqb (length (drop at l)) 0 (λ z. omega (arith, length-drop at l)) in
      rw (parts_none LINE_END (drop at l) none, rest_none LINE_END (drop at l) none, lines_answer, some)

  answer_line : at + n < length l
      → answer_from earlier l at ≡ in_turn (line_answer earlier at line) (answer_from (earlier ++ line ∷ []) l (at + n + 1))
  unfolding lines_answer
  answer_line h =
      let next : at + (n + 1) ≡ at + n + 1 = omega arith in
      let rest = drop (at + n + 1) l in
      ap₂ (lines_answer earlier at)
      (parts_from LINE_END l at n e h)
      (rest_cut LINE_END (drop at l) (omega (arith, e, length-drop at l))
      ∙ ap (λ (i : ℕ). after_last LINE_END (drop (i + 1) (drop at l))) (sym e)
      ∙ ap (after_last LINE_END) (drop-drop (n + 1) at l ∙ ap (λ (i : ℕ). drop i l) next))
      ∙ ap (λ (i : ℕ). in_turn (line_answer earlier at line) (lines_answer (earlier ++ line ∷ []) (at + i + 1) (lines_in rest) (after_last LINE_END rest)))
      (length-take-le n (drop at l) (omega (arith, length-drop at l)))

-- ---- how far reading has come

-- the lines before the place `at` are read: the answer to the rest is the answer to all, and these numbers are found so far
pub record Progress (l : List ℕ) (at : ℕ) (found : List (Option ℤ)) : Type 0 where
  pub earlier : List (List ℕ)
  pub answer_left : answer_from earlier l at ≡ body_answer l
  pub lines_left : earlier ++ lines_in (drop at l) ≡ lines_in l
  pub found_are : found ≡ found_in earlier

-- before the first line no number is found
pub nothing_read : (l : List ℕ) → Progress l 0 (replicate NUMBERS None)
unfolding body_answer found_in is_given number_given sheet_names sheet_rows subframe2_rows
nothing_read l = record { earlier = []; answer_left = refl; lines_left = refl; found_are = refl }

-- all names are given, or one is missing
not_below : (n m : ℕ) → n ≤ m → eqb n m ≡ not (ltb n m)
not_below n m h = go (dec_lt n m)
  where
    go : Dec (n < m) → eqb n m ≡ not (ltb n m)
    go (yes k) = rw (lt-ltb n m k, ne_eqb n m (λ z. omega arith))
    go (no k) = rw (le-ltb n m (omega arith), eq-eqb n m (omega arith))

missing_by : (missing : Bool) (n place : ℕ) (zs : List ℤ) (before : ℕ)
    → cond missing (refused_at n place) (sheet_is zs before) ≡ sheet_by (done_if (not missing) n place) zs before
missing_by true n place zs before = refl
missing_by false n place zs before = refl

finished_answer : (lines : List (List ℕ)) (before : ℕ)
    → finished_sheet (found_in lines) before ≡ sheet_by (missing_answer lines) (numbers_in lines) before
unfolding finished_sheet missing_answer
finished_answer lines before =
    let n = first_missing (given_in lines) in
    let zs = map (λ (x : Option ℤ). unwrap_or x (pos 0)) (found_in lines) in
    ap (λ (m : ℕ).
    let i = position_or_len is_none (found_in lines) in cond (ltb i m) (refused_at NAME_MISSING (i + 1)) (sheet_is zs before)) (found_many lines)
    ∙ ap₂ (λ (i : ℕ) (ys : List ℤ). cond (ltb i (length sheet_names)) (refused_at NAME_MISSING (i + 1)) (sheet_is ys before))
    (missing_found lines) (numbers_or lines)
    ∙ missing_by (ltb n (length sheet_names)) NAME_MISSING (n + 1) (numbers_in lines) before
    ∙ ap (λ (t : Bool). sheet_by (done_if t NAME_MISSING (n + 1)) (numbers_in lines) before)
    (sym (not_below n (length sheet_names) (omega (arith, missing_le (given_in lines), given_many lines))))

module _ {l : List ℕ} {at : ℕ} {found : List (Option ℤ)} (p : Progress l at found) where
  -- after the last line
  pub all_read : (before : ℕ) → length l ≤ at
      → finished_sheet found before ≡ sheet_by (body_answer l) (numbers_in (lines_in l)) before
  unfolding lines_answer parts_ended after_last
  all_read before h =
      let none : drop at l ≡ [] = drop_of_length-le l h in
      ap (λ (f : List (Option ℤ)). finished_sheet f before) p.found_are
      ∙ finished_answer p.earlier before
      ∙ ap₂ (λ (a : Answer) (lines : List (List ℕ)). sheet_by a (numbers_in lines) before)
      (ap (λ (rest : List ℕ). lines_answer p.earlier at (lines_in rest) (after_last LINE_END rest)) (sym none) ∙ p.answer_left)
      (sym (append-nil p.earlier) ∙ ap (λ (rest : List ℕ). p.earlier ++ lines_in rest) (sym none) ∙ p.lines_left)

  -- the next line: n bytes, and its end, where there is one
  module _ {n : ℕ} (there : n ≡ index_of LINE_END (drop at l)) where
    without_end : at < length l → at + n ≡ length l → body_answer l ≡ refused_at LINE at
    without_end h f = sym p.answer_left ∙ answer_endless p.earlier l at n there h f

    module _ (h : at + n < length l) where
      -- what is read of it
      module _ {x : Result (ℕ × ℤ) Rule} (r : line_read (take n (drop at l)) found ≡ x) where
        line_there : line_read (take n (drop at l)) (found_in p.earlier) ≡ x
        line_there = ap (line_read (take n (drop at l))) (sym p.found_are) ∙ r

        next_answer : body_answer l ≡ in_turn (answer_by at x) (answer_from (p.earlier ++ take n (drop at l) ∷ []) l (at + n + 1))
        next_answer =
            sym p.answer_left
            ∙ answer_line p.earlier l at n there h
            ∙ ap (λ (a : Answer). in_turn a (answer_from (p.earlier ++ take n (drop at l) ∷ []) l (at + n + 1)))
            (line_answer_lem p.earlier (take n (drop at l)) at ∙ ap (answer_by at) line_there)

      refused_line : {rule : Rule} → line_read (take n (drop at l)) found ≡ Err rule → body_answer l ≡ refused_at (number rule) at
      refused_line r = next_answer r

      module _ {k : ℕ} {z : ℤ} (r : line_read (take n (drop at l)) found ≡ Ok (k, z)) where
        given_listed : k < length sheet_names
        given_listed = gives_listed p.earlier (take n (drop at l)) k z (line_there r)

        given_line : Progress l (at + n + 1) (set found k (Some z))
        given_line = record {
          earlier = p.earlier ++ take n (drop at l) ∷ [];
          answer_left = sym (next_answer r);
          lines_left =
              append_assoc p.earlier (take n (drop at l) ∷ []) (lines_in (drop (at + n + 1) l))
              ∙ ap (λ (lines : List (List ℕ)). p.earlier ++ lines) (sym (parts_from LINE_END l at n there h))
              ∙ p.lines_left;
          found_are = ap (λ (f : List (Option ℤ)). set f k (Some z)) p.found_are ∙ gives_found p.earlier (take n (drop at l)) k z (line_there r);
        }

-- ---- an error that is made of another one

pub mapped_ok : {T E D : Type 0} (Q : E → D → Type 0) (r : Result T E) (m : Result T D) (x : T)
    → MatchResult r (λ y. m ≡ Ok y) (λ d. IsErrAnd m (Q d)) → m ≡ Ok x → r ≡ Ok x
mapped_ok Q (Ok y) m x cases e = cc
mapped_ok Q (Err d) (Ok y) x cases e = absurd cases
mapped_ok Q (Err d) (Err f) x cases e = cc

pub mapped_err : {T E D : Type 0} (Q : E → D → Type 0) (r : Result T E) (m : Result T D) (f : D)
    → MatchResult r (λ y. m ≡ Ok y) (λ d. IsErrAnd m (Q d)) → m ≡ Err f → (d : E) × (r ≡ Err d) × Q d f
mapped_err Q (Ok y) m f cases e = cc
mapped_err Q (Err d) (Ok y) f cases e = absurd cases
mapped_err Q (Err d) (Err g) f cases e = let same : g ≡ f = cc in (d, refl, subst (Q d) same cases)

-- ---- the pieces of the bytes, each up to a line's end and with it

-- the next piece of l from at on, where `left` stands behind it
pub record Piece (l : List ℕ) (at : ℕ) (piece left : List ℕ) : Type 0 where
  pub some : at < length l
  pub count : ℕ
  pub first : count ≡ index_of LINE_END (drop at l)
  pub long : length piece ≡ min (count + 1) (length l - at)
  pub text : drop at l ≡ piece ++ left

first_within : (rest : List ℕ) (n : ℕ) → IsFirstMatchOrLen (λ b. eqb b LINE_END) rest n → n ≤ length rest
first_within rest n first = go (dec_le n (length rest))
  where
    go : Dec (n ≤ length rest) → n ≤ length rest
    go (yes h) = h
    go (no h) =
        let other = first.0 (length rest) LINE_END (omega arith) (omega arith) in
        let z : ◌≡◌ {A = Bool} true false = sym (eq-eqb (get_or rest (length rest) LINE_END) LINE_END (get_or-eq_default rest LINE_END (omega arith))) ∙ other in
        let c : ◌≡◌ {A = ℕ} 0 1 = cc in
        absurd (omega arith)

-- as the library cuts it, by a closure that looks for a line's end
module _ {F : Type 0} {g : Mut F (Bor ℕ × Unit {0}) Bool} {f f' : F} (l : List ℕ) (at : ℕ) {rest piece left : List ℕ} where
  pub piece_cut : rest ≡ drop at l
      → (rest ≡ piece ++ left)
      × ((n : ℕ)
      × (length piece ≡ min (n + 1) (length rest))
      × ((p : ℕ → Bool) → ComputesKey g p f → ComputesKey g p f' × IsFirstMatchOrLen p rest n))
      × (0 < length rest)
      → ComputesKey g (λ b. eqb b LINE_END) f → Piece l at piece left
  piece_cut e steps closure =
      let n : ℕ = steps.1.0 in
      let long : length piece ≡ min (n + 1) (length rest) = steps.1.1 in
      let first = (steps.1.2 (λ b. eqb b LINE_END) closure).1 in
      let fits : length rest ≡ length l - at = ap length e ∙ length-drop at l in
      record {
        some = omega (arith, steps.2);
        count = n;
        first =
            sym
            (index_is LINE_END (drop at l)
            ∙ ap (position_or_len (λ b. eqb b LINE_END)) (sym e)
            ∙ position_or_len_is (λ b. eqb b LINE_END) rest n 0 (first_within rest n first) (λ k h. first.0 k 0 (omega arith) h) (λ h. first.1 h 0));
        long = omega (arith, long, fits);
        text = sym e ∙ steps.0;
      }

-- whether the piece ends with a line's end
abbrev pub is_ended : List ℕ → Bool
is_ended piece = pointwise eqb (drop (length piece - 1) piece) (LINE_END ∷ [])

last_byte : (piece : List ℕ) → 0 < length piece → is_ended piece ≡ eqb (get_or piece (length piece - 1) 0) LINE_END
last_byte piece h =
    let past : drop (suc (length piece - 1)) piece ≡ [] = drop_of_length-le piece {i = suc (length piece - 1)} (omega arith) in
    rw (drop-cons piece (length piece - 1) 0 (omega arith), past)
    (and-true (eqb (get_or piece (length piece - 1) 0) LINE_END))

module _ {l : List ℕ} {at : ℕ} {piece left : List ℕ} (q : Piece l at piece left) where
  ends : is_ended piece ≡ ltb (at + q.count) (length l)
  ends = last_byte piece (omega (arith, q.some, q.long)) ∙ ap (λ (b : ℕ). eqb b LINE_END) same ∙ go (dec_lt (at + q.count) (length l))
    where
      same : get_or piece (length piece - 1) 0 ≡ get_or (drop at l) (length piece - 1) 0
      same =
          sym (get_or_append_left piece left 0 (length piece - 1) (omega (arith, q.some, q.long)))
          ∙ ap (λ (bytes : List ℕ). get_or bytes (length piece - 1) 0) (sym q.text)

      go : Dec (at + q.count < length l) → eqb (get_or (drop at l) (length piece - 1) 0) LINE_END ≡ ltb (at + q.count) (length l)
      go (yes h) =
          let e : length piece - 1 ≡ index_of LINE_END (drop at l) = omega (arith, q.long, q.first) in
          eq-eqb (get_or (drop at l) (length piece - 1) 0) LINE_END
          (ap (λ (i : ℕ). get_or (drop at l) i 0) e ∙ index_at LINE_END (drop at l) (omega (arith, q.first, length-drop at l)))
          ∙ sym (lt-ltb (at + q.count) (length l) h)
      go (no h) =
          fails_before_first (λ b. eqb b LINE_END) (drop at l) (length piece - 1) 0
          (omega (arith, q.long, q.some, q.first, index_is LINE_END (drop at l)))
          ∙ sym (le-ltb (at + q.count) (length l) (omega arith))

  pub piece_fits : at + length piece ≤ length l
  piece_fits = omega (arith, q.some, ap length q.text, length-drop at l, length-append piece left)

  pub left_is : left ≡ drop (at + length piece) l
  left_is = sym (drop-append_seam piece left) ∙ ap (drop (length piece)) (sym q.text) ∙ drop-drop (length piece) at l

  module _ {found : List (Option ℤ)} (p : Progress l at found) where
    pub endless : is_ended piece ≡ false → body_answer l ≡ refused_at LINE at
    endless e = without_end p q.first q.some (omega (arith, q.some, ltb-false (at + q.count) (length l) (sym ends ∙ e), q.first, index_le LINE_END (drop at l), length-drop at l))

    module _ (e : is_ended piece ≡ true) (line : List ℕ) (is : line ≡ take (length piece - 1) piece) where
      inside : at + q.count < length l
      inside = ltb-true (at + q.count) (length l) (sym ends ∙ e)

      long_is : length piece ≡ q.count + 1
      long_is = omega (arith, q.long, inside)

      line_is : line ≡ take q.count (drop at l)
      line_is =
          let e : length piece - 1 ≡ q.count = omega (arith, long_is) in
          is
          ∙ ap (λ (n : ℕ). take n piece) e
          ∙ sym (take-append-le q.count piece left (omega (arith, long_is)))
          ∙ ap (take q.count) (sym q.text)

      pub piece_refused : {rule : Rule} → line_read line found ≡ Err rule → body_answer l ≡ refused_at (number rule) at
      piece_refused r = refused_line p q.first inside (ap (λ (x : List ℕ). line_read x found) (sym line_is) ∙ r)

      module _ {k : ℕ} {z : ℤ} (r : line_read line found ≡ Ok (k, z)) where
        pub piece_listed : k < length sheet_names
        piece_listed = given_listed p q.first inside (ap (λ (x : List ℕ). line_read x found) (sym line_is) ∙ r)

        pub piece_given : Progress l (at + length piece) (set found k (Some z))
        piece_given =
            let next : at + q.count + 1 ≡ at + length piece = omega (arith, long_is) in
            subst (λ (i : ℕ). Progress l i (set found k (Some z))) next
            (given_line p q.first inside (ap (λ (x : List ℕ). line_read x found) (sym line_is) ∙ r))
