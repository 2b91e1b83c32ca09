-- THEOREMS: page bits and records, there and back; a refusal leaves the bytes; where fields stand, and their ranges.
-- Assumes nothing.
use Rattle.std.specs.Prelude.{◌≡◌, refl, Ok, true, false, List, ◌++◌, ℕ, ◌+◌, ◌-◌, ◌^◌, ◌≤◌, ◌<◌, ℤ, pos, length, get_or, take, drop, replicate}
use Rattle.std.proofs.Common.{sym, ap, ap₂, ◌∙◌, arith, length-append, length-drop, take-append-drop, length-take-le, take_at, drop_at, drop-drop}
use Rattle.words.specs.Bits.{IsBits, value_of, bits_of}
use Rattle.words.specs.RoundTrip.{number_back, bits_back}
use Rattle.words.specs.Refusal.{FIELD_3, done_if, left_by, given_by, Answer, Done}
use Rattle.words.specs.Unchanged.{Refuses, refused_by_answer}
use Rattle.words.specs.Laws.Digits.{bits_append, bits_take, bits_drop, length_bits, bits_are}
use Rattle.words.specs.Laws.Turns.{both_done, test_done}
use Rattle.fields.specs.Table.{fields_in, no_field, page1_rows, page6_rows, bit_count, first_bit}
use Rattle.fields.specs.Counts.{counts_in, bits_of_counts, in_range, first_out}
use Rattle.fields.specs.Pages.{PAGE_BITS, HEAD_BITS, BODY_BITS, PAGE_COUNTS, NUMBER_BIT, prn_in, number_in, kind_of, table_of, page_fields, carried, page_counts, carried_bits, record_with, record_of, range_answer, page_answer, page_taken, is_own, counts_answer3, fields_answer3, parts_answer, page_from, parts_bytes, used_counts, used_bits, put_page_answer, put_page_bytes}
use Rattle.fields.specs.CountsBack.{length_bits_of, bits_of_are, counts_back, count_bits_back, none_out}
use Rattle.fields.specs.Laws.Counts.{value_below}
use Rattle.fields.specs.Laws.Table.{usable_tables}
use Rattle.fields.specs.Laws.Answers.{judged_right, found_done, counts_judged_lem, counts_right}
use Rattle.words.specs.Laws.Turns.{given_ok}
use Rattle.fields.specs.Laws.Pages.{few_bits, counts_used, parts_as_long, own_below, own_kind, kind_own}
use Rattle.fields.specs.declared.pages.Kind.{Kind}
use Rattle.fields.specs.declared.pages.Page.{Page}
use Rattle.fields.specs.declared.table.Field.{Field}
use Rattle.fields.specs.declared.table.Table.TheVariants.{Page1, Page6}

-- ---- what is put

-- a record is put exactly where the bytes are 250, its bits are bits, the page number is its own and its counts are in range
module _ (kind : Kind) (number : ℕ) (zs : List ℤ) (bits out : List ℕ) where
  parts_put : length out ≡ 250 → IsBits bits → is_own kind number ≡ true → first_out 14 (page_fields kind) zs ≡ 0
      → parts_answer kind number zs bits out ≡ Done
  parts_put long are own none =
      judged_right 250 (length out) bits (fields_answer3 kind number zs) long are ∙ rw own (counts_right FIELD_3 14 (page_fields kind) zs none)

  parts_were : parts_answer kind number zs bits out ≡ Done
      → (length out ≡ 250) × IsBits bits × (is_own kind number ≡ true) × (first_out 14 (page_fields kind) zs ≡ 0)
  parts_were e =
      let found = found_done 250 (length out) bits (fields_answer3 kind number zs) e in
      let both = both_done (done_if (is_own kind number) FIELD_3 NUMBER_BIT) (counts_answer3 (page_fields kind) zs) found.2 in
      (found.0, found.1, test_done (is_own kind number) FIELD_3 NUMBER_BIT both.0, counts_judged_lem FIELD_3 14 (page_fields kind) zs both.1)

-- ---- page bits, taken and put back

module _ (l : List ℕ) (long : length l ≡ 250) (are : IsBits l) where
  -- the bits of a number that bits stand for
  number_again : (at w : ℕ) → at + w ≤ 250 → bits_of w (value_of (take w (drop at l))) ≡ take w (drop at l)
  number_again at w h =
      let count : length (take w (drop at l)) ≡ w = length-take-le w (drop at l) (omega (arith, length-drop at l)) in
      ap (λ (k : ℕ). bits_of k (value_of (take w (drop at l)))) (sym count) ∙ bits_back (take w (drop at l)) (bits_take w (drop at l) (bits_drop at l are))

  -- two parts one after the other
  parts_in_row : (at w : ℕ) → take w (drop at l) ++ drop (at + w) l ≡ drop at l
  parts_in_row at w = ap (λ (x : List ℕ). take w (drop at l) ++ x) (sym (drop-drop w at l)) ∙ take-append-drop w (drop at l)

  all_again : (kind : Kind) → page_from (prn_in l) (number_in l) (page_fields kind) (page_counts kind l) (carried_bits kind l) ≡ l
  all_again kind =
      let fs : List Field = page_fields kind in
      let few = few_bits kind in
      let fields : bits_of_counts fs (counts_in fs (drop 14 l)) ≡ take (bit_count fs) (drop 14 l) =
      count_bits_back fs (drop 14 l) (bits_drop 14 l are) (omega (arith, length-drop 14 l)) in
      ap₂ (λ (x y : List ℕ). x ++ y) (number_again 0 8 (omega arith))
      (ap₂ (λ (x y : List ℕ). x ++ y) (number_again 8 6 (omega arith))
      (ap (λ (x : List ℕ). x ++ drop (14 + bit_count fs) l) fields ∙ parts_in_row 14 (bit_count fs)) ∙ parts_in_row 8 6)
      ∙ parts_in_row 0 8

  -- what the record of the bits uses is what they stand for
  carried_again : (kind : Kind) → used_bits (record_of kind l) ≡ carried_bits kind l
  carried_again kind =
      take_at (carried_bits kind l) (replicate (236 - carried kind) 0) (carried kind)
      (length-drop (14 + bit_count (page_fields kind)) l ∙ omega arith)

counts_again : (kind : Kind) (l : List ℕ) → used_counts (record_of kind l) ≡ page_counts kind l
counts_again kind l = counts_used kind l (length (page_fields kind)) (record_of kind l).counts refl refl

-- 250 bits that are taken without refusal and put back into any 250 bytes are the same bits, and nothing is refused.
pub page_put_again : (l old : List ℕ) (taken : Page) → page_taken l ≡ Ok taken → length old ≡ PAGE_BITS
    → (put_page_answer taken old ≡ Done) × (put_page_bytes taken old ≡ l)
page_put_again l old taken e n =
    let number : ℕ = number_in l in
    let kind : Kind = kind_of number in
    let page : Page = record_of kind l in
    let as_taken = given_ok (page_answer l) page taken e in
    let done : page_answer l ≡ Done = as_taken.0 in
    let found = found_done 250 (length l) l (range_answer l) done in
    let long = found.0 in
    let are = found.1 in
    let answer : parts_answer kind number (page_counts kind l) (carried_bits kind l) old ≡ Done =
    parts_put kind number (page_counts kind l) (carried_bits kind l) old n (bits_drop (14 + bit_count (page_fields kind)) l are)
    (kind_own number (value_below 6 (drop 8 l))) (counts_judged_lem FIELD_3 14 (page_fields kind) (page_counts kind l) found.2) in
    let whole : put_page_answer page old ≡ Done =
    ap₂ (λ (zs : List ℤ) (bits : List ℕ). parts_answer kind number zs bits old) (counts_again kind l) (carried_again l long are kind) ∙ answer in
    let bytes : put_page_bytes page old ≡ l =
    ap₂ (λ (zs : List ℤ) (bits : List ℕ). parts_bytes (prn_in l) kind number zs bits old) (counts_again kind l) (carried_again l long are kind)
    ∙ ap (λ (a : Answer). left_by a (page_from (prn_in l) number (page_fields kind) (page_counts kind l) (carried_bits kind l)) old) answer
    ∙ all_again l long are kind in
    (rw as_taken.1 whole, rw as_taken.1 bytes)

-- ---- a record, put and taken back

-- a record as the code has it: PRN is a byte, and there are 30 counts and 236 bits
pub record IsPage (page : Page) : Type 0 where
  pub prn_byte : page.prn < 2 ^ 8
  pub all_counts : length page.counts ≡ PAGE_COUNTS
  pub every_bit : length page.bits ≡ BODY_BITS

-- the record with zeros in the places that its kind does not use
abbrev pub only_used : Page → Page
only_used page = record_with page.prn page.number page.kind (used_counts page) (used_bits page)

module _ (prn number : ℕ) (kind : Kind) (zs : List ℤ) (bits : List ℕ) (small : prn < 2 ^ 8) (own : is_own kind number ≡ true)
    (as_many : length zs ≡ length (page_fields kind)) (all : 14 + bit_count (page_fields kind) + length bits ≡ 250) (are : IsBits bits)
    (none : first_out 14 (page_fields kind) zs ≡ 0) where
  abbrev field_bits : List ℕ
  field_bits = bits_of_counts (page_fields kind) zs

  abbrev put_bits : List ℕ
  put_bits = page_from prn number (page_fields kind) zs bits

  put_long : length put_bits ≡ 250
  put_long =
      let body = length-append field_bits bits in
      let behind = length-append (bits_of 6 number) (field_bits ++ bits) in
      length-append (bits_of 8 prn) (bits_of 6 number ++ (field_bits ++ bits))
      ∙ omega (arith, length_bits 8 prn, length_bits 6 number, length_bits_of (page_fields kind) zs as_many)

  put_are : IsBits put_bits
  put_are =
      bits_append (bits_of 8 prn) (bits_of 6 number ++ (field_bits ++ bits)) (bits_are 8 prn)
      (bits_append (bits_of 6 number) (field_bits ++ bits) (bits_are 6 number) (bits_append field_bits bits (bits_of_are (page_fields kind) zs) are))

  prn_same : prn_in put_bits ≡ prn
  prn_same =
      ap value_of (take_at (bits_of 8 prn) (bits_of 6 number ++ (field_bits ++ bits)) 8 (length_bits 8 prn)) ∙ number_back 8 prn small

  behind_prn : drop 8 put_bits ≡ bits_of 6 number ++ (field_bits ++ bits)
  behind_prn = drop_at (bits_of 8 prn) (bits_of 6 number ++ (field_bits ++ bits)) 8 (length_bits 8 prn)

  number_same : number_in put_bits ≡ number
  number_same =
      ap value_of (ap (take 6) behind_prn ∙ take_at (bits_of 6 number) (field_bits ++ bits) 6 (length_bits 6 number))
      ∙ number_back 6 number (own_below kind number own)

  behind_head : drop 14 put_bits ≡ field_bits ++ bits
  behind_head =
      sym (drop-drop 6 8 put_bits) ∙ ap (drop 6) behind_prn ∙ drop_at (bits_of 6 number) (field_bits ++ bits) 6 (length_bits 6 number)

  counts_same : page_counts kind put_bits ≡ zs
  counts_same =
      ap (counts_in (page_fields kind)) behind_head
      ∙ counts_back (page_fields kind) zs bits (usable_tables (table_of kind)) (none_out 14 (page_fields kind) zs as_many none)

  carried_same : carried_bits kind put_bits ≡ bits
  carried_same =
      sym (drop-drop (bit_count (page_fields kind)) 14 put_bits) ∙ ap (drop (bit_count (page_fields kind))) behind_head
      ∙ drop_at field_bits bits (bit_count (page_fields kind)) (length_bits_of (page_fields kind) zs as_many)

  kind_same : kind_of (number_in put_bits) ≡ kind
  kind_same = ap kind_of number_same ∙ own_kind kind number own

  put_done : page_answer put_bits ≡ Done
  put_done =
      judged_right 250 (length put_bits) put_bits (range_answer put_bits) put_long put_are
      ∙ ap (λ (k : Kind). counts_answer3 (page_fields k) (page_counts k put_bits)) kind_same
      ∙ ap (counts_answer3 (page_fields kind)) counts_same ∙ counts_right FIELD_3 14 (page_fields kind) zs none

  put_taken : page_taken put_bits ≡ Ok (record_with prn number kind zs bits)
  put_taken =
      ap₂ given_by put_done
      (ap (λ (k : Kind). record_of k put_bits) kind_same ∙ rw (prn_same, number_same, counts_same, carried_same) refl)

-- the parts of a record are as many as they must be
parts_there : (page : Page) → IsPage page
    → (length (used_counts page) ≡ length (page_fields page.kind)) × (14 + bit_count (page_fields page.kind) + length (used_bits page) ≡ 250)
parts_there page is =
    parts_as_long page.kind (length (page_fields page.kind)) (bit_count (page_fields page.kind)) page.counts page.bits refl refl is.all_counts
    is.every_bit

-- A record that is put without refusal is taken back: the same record, with zeros in the places that its kind does not use.
pub page_taken_back : (page : Page) (old : List ℕ) → IsPage page → put_page_answer page old ≡ Done
    → page_taken (put_page_bytes page old) ≡ Ok (only_used page)
page_taken_back page old is e =
    let were = parts_were page.kind page.number (used_counts page) (used_bits page) old e in
    let there = parts_there page is in
    ap (λ (a : Answer). page_taken (left_by a (page_from page.prn page.number (page_fields page.kind) (used_counts page) (used_bits page)) old)) e
    ∙ put_taken page.prn page.number page.kind (used_counts page) (used_bits page) is.prn_byte were.2 there.0 there.1 were.1 were.3

-- So PRN, page number, kind, and the counts and the bits that the kind uses are the same.
pub page_same_parts : (page : Page) → IsPage page
    → ((only_used page).prn ≡ page.prn) × ((only_used page).number ≡ page.number) × ((only_used page).kind ≡ page.kind)
    × (used_counts (only_used page) ≡ used_counts page) × (used_bits (only_used page) ≡ used_bits page)
page_same_parts page is =
    let there = parts_there page is in
    let few = few_bits page.kind in (
      refl,
      refl,
      refl,
      take_at (used_counts page) (replicate (30 - length (page_fields page.kind)) (pos 0)) (length (page_fields page.kind)) there.0,
      take_at (used_bits page) (replicate (236 - carried page.kind) 0) (carried page.kind) (omega (arith, there.1)),
    )

-- And where what the kind does not use is zero, the record is the same.
pub page_same : (page : Page) (old : List ℕ) → IsPage page → only_used page ≡ page → put_page_answer page old ≡ Done
    → page_taken (put_page_bytes page old) ≡ Ok page
page_same page old is zeros e = page_taken_back page old is e ∙ ap Ok zeros

-- A record that is taken has zeros there.
pub taken_zeros : (l : List ℕ) (taken : Page) → page_taken l ≡ Ok taken → only_used taken ≡ taken
taken_zeros l taken e =
    let kind : Kind = kind_of (number_in l) in
    let page : Page = record_of kind l in
    let as_taken = given_ok (page_answer l) page taken e in
    let done : page_answer l ≡ Done = as_taken.0 in
    let found = found_done 250 (length l) l (range_answer l) done in
    let zeros : only_used page ≡ page =
    ap₂ (record_with (prn_in l) (number_in l) kind) (counts_again kind l) (carried_again l found.0 found.1 kind) in
    ap only_used as_taken.1 ∙ zeros ∙ sym as_taken.1

-- ---- a refusal leaves the bytes

-- Where putting a record is refused, the bytes are as they were.
pub page_unchanged : (page : Page) (old : List ℕ) → Refuses (put_page_answer page old) → put_page_bytes page old ≡ old
page_unchanged page old h =
    refused_by_answer (put_page_answer page old)
    (page_from page.prn page.number (page_fields page.kind) (used_counts page) (used_bits page)) old h

-- ---- where fields stand, counted in the 250 page bits

-- tot's first bit is 59.
pub tot_place : HEAD_BITS + first_bit Page1 4 ≡ 59
unfolding fields_in page1_rows bit_count
tot_place = refl

-- DN's first bit is 101.
pub dn_place : HEAD_BITS + first_bit Page1 7 ≡ 101
unfolding fields_in page1_rows bit_count
dn_place = refl

-- The bits that page 1 carries as bits begin at 177.
pub page1_carried_place : HEAD_BITS + first_bit Page1 17 ≡ 177
unfolding fields_in page1_rows bit_count
page1_carried_place = refl

-- The text page begins at bit 15, its first byte of text at 19.
pub text_place : (HEAD_BITS + first_bit Page6 0 ≡ 15) × (HEAD_BITS + first_bit Page6 1 ≡ 19)
unfolding fields_in page6_rows bit_count
text_place = (refl, refl)

-- ---- the ranges that are narrower than the width, and those of a text page

-- tot is at most 37799.
pub tot_range : (in_range (get_or (fields_in Page1) 4 no_field) (pos 37799) ≡ true) × (in_range (get_or (fields_in Page1) 4 no_field) (pos 37800) ≡ false)
unfolding fields_in page1_rows
tot_range = (refl, refl)

-- DN is 1 to 7.
pub dn_range : (in_range (get_or (fields_in Page1) 7 no_field) (pos 0) ≡ false) × (in_range (get_or (fields_in Page1) 7 no_field) (pos 1) ≡ true)
    × (in_range (get_or (fields_in Page1) 7 no_field) (pos 7) ≡ true) × (in_range (get_or (fields_in Page1) 7 no_field) (pos 8) ≡ false)
unfolding fields_in page1_rows
dn_range = (refl, refl, refl, refl)

-- The text page is at most 15, a byte of text at most 255.
pub text_range : (in_range (get_or (fields_in Page6) 0 no_field) (pos 15) ≡ true) × (in_range (get_or (fields_in Page6) 0 no_field) (pos 16) ≡ false)
    × (in_range (get_or (fields_in Page6) 1 no_field) (pos 255) ≡ true) × (in_range (get_or (fields_in Page6) 1 no_field) (pos 256) ≡ false)
unfolding fields_in page6_rows
text_range = (refl, refl, refl, refl)
