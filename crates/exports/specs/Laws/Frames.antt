-- What the calls on frames answer is reported by their numbers.
-- Assumes nothing.
use Rattle.std.specs.Prelude.{◌≡◌, Bool, true, false, cond, ◌&&◌, List, [], ◌∷◌, ℕ, zero, suc, ◌+◌, ◌%◌, ◌≤◌, ◌<◌, eqb, leb, ℤ, length, take, Err, Ok}
use Rattle.std.proofs.Common.{sym, subst, arith, eqb-true, Result}
use Rattle.std.proofs.Math.Bool.{and-eq-true_iff}
use Rattle.words.specs.Bits.{first_not_bit}
use Rattle.words.specs.Crc.{remainder_of}
use Rattle.words.specs.Refusal.{LENGTH, NOT_A_BIT, TIME, FIELD_2, FIELD_3, done_if, in_turn, Answer, Done, answer_of, refused_at}
use Rattle.words.specs.Time.{LAST_TOI, time_is, time_read, corrected_read}
use Rattle.words.specs.declared.time.Time.{Time}
use Rattle.words.specs.Laws.Digits.{not_bit_le}
use Rattle.words.specs.Laws.Judged.{Judged, wrong_length, wrong_byte, time_missing, a_time, judged}
use Rattle.tables.specs.Matrix.{Matrix, matrix_of}
use Rattle.tables.specs.declared.matrix.Subframe.{Subframe}
use Rattle.tables.specs.declared.matrix.Subframe.TheVariants.{Two, Three}
use Rattle.parity.specs.Equations.{data_of, first_odd, first_unmet, equation_sum, equation_number, is_block, met_answer}
use Rattle.fields.specs.Table.{bit_count, fields_in}
use Rattle.fields.specs.declared.table.Field.{Field}
use Rattle.fields.specs.Counts.{in_range, first_out, out_answer, counts_in}
use Rattle.fields.specs.Subframe2.{COUNTS_2, fields2, counts_answer}
use Rattle.fields.specs.Pages.{HEAD_BITS, PAGE_BITS, kind_of, number_in, table_of, page_counts, range_answer}
use Rattle.fields.specs.Laws.Table.{bits_most}
use Rattle.fields.specs.Laws.Subframe2.{bits_fields2}
use Rattle.fields.specs.declared.table.Table.{Table}
use Rattle.fields.specs.declared.table.Table.TheVariants.{Subframe2}
use Rattle.frames.specs.Frame.{Contents, FRAME, time_in, subframe_in, bits_before}
use Rattle.frames.specs.Build.{build_lengths, contents_answer, build_answer}
use Rattle.frames.specs.Read.{check_number, check_bits_answer, ranges_answer, subframe_answer, frame_judged, frame_answer, contents_in, frame_is, frame_read, time_alone, alone_answer}
use Rattle.frames.specs.Laws.Reading.{alone_is}
use Rattle.exports.specs.Code.{HALF}
use Rattle.exports.specs.Laws.Codable.{Codable, done_codable, test_codable, turn_codable, judged_codable}
use Rattle.words.specs.declared.refusal.Refusal.{Refusal}
use Rattle.words.specs.Laws.Turns.{given_answer}

-- ---- places

first_out_le : (at : ℕ) (fs : List Field) (zs : List ℤ) → first_out at fs zs ≤ at + bit_count fs + 1
unfolding first_out bit_count
first_out_le at [] zs = omega arith
first_out_le at (f ∷ fs) [] = omega arith
first_out_le at (f ∷ fs) (z ∷ zs) = go (in_range f z) (first_out_le (at + f.width) fs zs)
  where
    go : (t : Bool) → first_out (at + f.width) fs zs ≤ at + f.width + bit_count fs + 1
        → cond t (first_out (at + f.width) fs zs) (at + 1) ≤ at + (f.width + bit_count fs) + 1
    go true h = omega arith
    go false h = omega arith

first_odd_le : (f : ℕ → ℕ) (r n : ℕ) → first_odd f r n ≤ r + n
unfolding first_odd
first_odd_le f r zero = omega arith
first_odd_le f r (suc n) = go (eqb (f r % 2) 0) (first_odd_le f (r + 1) n)
  where
    go : (t : Bool) → first_odd f (r + 1) n ≤ r + 1 + n → cond t (first_odd f (r + 1) n) r ≤ r + suc n
    go true h = omega arith
    go false h = omega arith

-- ---- parts of a frame

out_codable : (n at : ℕ) (fs : List Field) (zs : List ℤ) → (n ≡ 0 → ⊥) → at + bit_count fs + 1 < HALF → Codable (out_answer n at fs zs)
out_codable n at fs zs some h =
    test_codable (eqb (first_out at fs zs) 0) n (first_out at fs zs) some (λ e. omega (arith, first_out_le at fs zs))

-- of a table's fields
table_codable : (n at : ℕ) (t : Table) (zs : List ℤ) → (n ≡ 0 → ⊥) → at ≤ HEAD_BITS → Codable (out_answer n at (fields_in t) zs)
table_codable n at t zs some h = out_codable n at (fields_in t) zs some (omega (arith, bits_most t))

range_codable : (l : List ℕ) → Codable (range_answer l)
range_codable l =
    table_codable FIELD_3 HEAD_BITS (table_of (kind_of (number_in l))) (page_counts (kind_of (number_in l)) l) (λ e. omega arith) (omega arith)

pub counts_codable : (zs : List ℤ) → Codable (counts_answer zs)
counts_codable zs = table_codable FIELD_2 0 Subframe2 zs (λ e. omega arith) (omega arith)

ranges_codable : (s : Subframe) (bits : List ℕ) → Codable (ranges_answer s bits)
ranges_codable Two bits = out_codable FIELD_2 0 fields2 (counts_in fields2 bits) (λ e. omega arith) (omega (arith, bits_fields2))
ranges_codable Three bits = range_codable bits

met_codable : (s : Subframe) (x : List ℕ) → Codable (met_answer s x)
unfolding first_unmet
met_codable s x =
    judged_codable (is_block M (length x)) (eqb (first_not_bit x) (length x)) (first_not_bit x)
    (done_if (eqb (first_unmet M x) 0) (equation_number s) (first_unmet M x))
    (λ e. omega (arith, few s, not_bit_le x, eqb-true (length x) (M.equations + M.equations) e))
    (test_codable (eqb (first_unmet M x) 0) (equation_number s) (first_unmet M x) (some s)
    (λ e. omega (arith, few s, first_odd_le (equation_sum M x) 1 M.equations)))
  where
    M : Matrix
    M = matrix_of s

    few : (s : Subframe) → (matrix_of s).equations ≤ 600
    few Two = omega arith
    few Three = omega arith

    some : (s : Subframe) → equation_number s ≡ 0 → ⊥
    some Two e = omega arith
    some Three e = omega arith

subframe_codable : (s : Subframe) (block : List ℕ) → Codable (subframe_answer s block)
subframe_codable s block =
    turn_codable (met_answer s block) (in_turn (check_bits_answer s symbols) (ranges_answer s bits)) (met_codable s block)
    (turn_codable (check_bits_answer s symbols) (ranges_answer s bits)
    (test_codable (eqb (remainder_of symbols) 0) (check_number s) 0 (some s) (λ e. omega arith))
    (ranges_codable s bits))
  where
    symbols : List ℕ
    symbols = data_of (matrix_of s) block

    bits : List ℕ
    bits = take (bits_before s) block

    some : (s : Subframe) → check_number s ≡ 0 → ⊥
    some Two e = omega arith
    some Three e = omega arith

time_codable : (s : List ℕ) → Codable (answer_of (time_read s))
time_codable s = go (judged s)
  where
    is : (t : Result Time Refusal) → time_read s ≡ t → Codable (answer_of t) → Codable (answer_of (time_read s))
    is t e h = subst (λ (x : Result Time Refusal). Codable (answer_of x)) (sym e) h

    go : Judged s → Codable (answer_of (time_read s))
    go (wrong_length l r) = is (refused_at LENGTH 0) r (test_codable false LENGTH 0 (λ e. omega arith) (λ e. omega arith))
    go (wrong_byte l b r) =
        is (refused_at NOT_A_BIT (first_not_bit s)) r (test_codable false NOT_A_BIT (first_not_bit s) (λ e. omega arith) (λ e. omega arith))
    go (time_missing l b far r) = is (refused_at TIME 0) r (test_codable false TIME 0 (λ e. omega arith) (λ e. omega arith))
    go (a_time l b toi places t r) = is (time_is toi places) r done_codable

lent_codable : (f : List ℕ) (a : Answer) → Codable a → Codable (frame_judged f a)
lent_codable f a h =
    judged_codable (eqb (length f) FRAME) (eqb (first_not_bit f) (length f)) (first_not_bit f) a
    (λ e. omega (arith, not_bit_le f, eqb-true (length f) FRAME e)) h

-- ---- what the library's functions answer

pub build_codable : (c : Contents) (out : List ℕ) → Codable (build_answer c out)
build_codable c out =
    judged_codable (build_lengths c out) (eqb (first_not_bit c.page) (length c.page)) (first_not_bit c.page) (contents_answer c)
    (λ e. omega (arith, not_bit_le c.page, page_long e))
    (turn_codable (done_if (leb c.toi LAST_TOI) TIME 0) (in_turn (counts_answer c.counts) (range_answer c.page))
    (test_codable (leb c.toi LAST_TOI) TIME 0 (λ e. omega arith) (λ e. omega arith))
    (turn_codable (counts_answer c.counts) (range_answer c.page) (counts_codable c.counts) (range_codable c.page)))
  where
    page_long : build_lengths c out ≡ true → length c.page ≡ PAGE_BITS
    page_long e =
        let behind = (and-eq-true_iff (eqb (length c.counts) COUNTS_2) (eqb (length c.page) PAGE_BITS && eqb (length out) FRAME)).0 e in
        eqb-true (length c.page) PAGE_BITS ((and-eq-true_iff (eqb (length c.page) PAGE_BITS) (eqb (length out) FRAME)).0 behind.1).0

pub read_codable : (f : List ℕ) → Codable (answer_of (frame_read f))
read_codable f = subst Codable (sym (given_answer (frame_answer f) (frame_is (contents_in f) (corrected_read (time_read (time_in f)))))) whole
  where
    two : Answer
    two = subframe_answer Two (subframe_in Two f)

    three : Answer
    three = subframe_answer Three (subframe_in Three f)

    whole : Codable (frame_answer f)
    whole =
        lent_codable f (in_turn (answer_of (time_read (time_in f))) (in_turn two three))
        (turn_codable (answer_of (time_read (time_in f))) (in_turn two three) (time_codable (time_in f))
        (turn_codable two three (subframe_codable Two (subframe_in Two f)) (subframe_codable Three (subframe_in Three f))))

pub time_alone_codable : (f : List ℕ) → Codable (answer_of (time_alone f))
time_alone_codable f = go (frame_judged f Done) (lent_codable f Done done_codable)
  where
    go : (a : Answer) → Codable a → Codable (answer_of (in_turn a (time_read (time_in f))))
    go (Ok _) h = time_codable (time_in f)
    go (Err r) h = h

pub alone_codable : (s : Subframe) (f : List ℕ) → Codable (alone_answer s f)
alone_codable s f = subst Codable (sym (alone_is s f)) (lent_codable f (subframe_answer s (subframe_in s f)) (subframe_codable s (subframe_in s f)))
