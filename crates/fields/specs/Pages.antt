-- The pages of subframe 3 (document 01, "Subframe 3"; IS-GPS-800, 3.5.4): 250 bits, which are PRN, page number and 236 bits of body. Page
-- 1 and page 6 have fields; the rest of the body, and the whole body of every other page, is carried as bits.
-- Assumes nothing.
use Rattle.std.specs.Prelude.{Bool, cond, not, ◌&&◌, List, ◌++◌, ℕ, ◌+◌, ◌-◌, eqb, leb, ℤ, pos, length, take, drop, replicate, Result}
use Rattle.words.specs.Bits.{first_not_bit, value_of, bits_of}
use Rattle.words.specs.Refusal.{FIELD_3, done_if, in_turn, judged, left_by, given_by, Answer}
use Rattle.fields.specs.Table.{fields_in, bit_count}
use Rattle.fields.specs.Counts.{counts_in, bits_of_counts, out_answer}
use Rattle.fields.specs.declared.table.Field.{Field}
use Rattle.fields.specs.declared.table.Table.{Table}
use Rattle.fields.specs.declared.table.Table.TheVariants.{Page1, Page6, NoFields}
use Rattle.fields.specs.declared.pages.Kind.{Kind}
use Rattle.fields.specs.declared.pages.Kind.TheVariants.{One, Six, Bare}
use Rattle.fields.specs.declared.pages.Page.{Page}
use Rattle.words.specs.declared.refusal.Refusal.{Refusal}

-- ---- 250 page bits

-- the page bits: bits 1 to 250 of subframe 3, before its check bits (3.5.4)
abbrev pub PAGE_BITS : ℕ
PAGE_BITS = 250

-- PRN and page number: bits 1 to 14
abbrev pub HEAD_BITS : ℕ
HEAD_BITS = 14

-- the body: bits 15 to 250
abbrev pub BODY_BITS : ℕ
BODY_BITS = 236

-- PRN, bits 1 to 8
abbrev pub prn_in : List ℕ → ℕ
prn_in l = value_of (take 8 l)

-- the page number, bits 9 to 14
abbrev pub number_in : List ℕ → ℕ
number_in l = value_of (take 6 (drop 8 l))

-- the kind of record that a page number asks for: page 1, page 6, and for any other page number bare bits
abbrev pub kind_of : ℕ → Kind
kind_of number = cond (eqb number 1) One (cond (eqb number 6) Six Bare)

-- the table of its fields; bare bits have none (3.5.4, Table 3.5-3)
abbrev pub table_of : Kind → Table
table_of One = Page1
table_of Six = Page6
table_of Bare = NoFields

-- the fields of a page of this kind, from bit 15
abbrev pub page_fields : Kind → List Field
page_fields kind = fields_in (table_of kind)

-- how many bits of the body, behind the fields, are carried as bits
abbrev pub carried : Kind → ℕ
carried kind = BODY_BITS - bit_count (page_fields kind)

-- the counts of a page's fields
abbrev pub page_counts : Kind → List ℕ → List ℤ
page_counts kind l = counts_in (page_fields kind) (drop HEAD_BITS l)

-- the bits behind the fields: for page 1 bits 177 to 250
abbrev pub carried_bits : Kind → List ℕ → List ℕ
carried_bits kind l = drop (HEAD_BITS + bit_count (page_fields kind)) l

-- the counts that a record has room for: page 6 has the most, a text page and 29 bytes
abbrev pub PAGE_COUNTS : ℕ
PAGE_COUNTS = 30

-- the record with these parts: PRN, page number, kind, counts, carried bits; the places that its kind does not use are zero
abbrev pub record_with : ℕ → ℕ → Kind → List ℤ → List ℕ → Page
record_with prn number kind zs bits =
    record {
      prn = prn;
      number = number;
      kind = kind;
      counts = zs ++ replicate (PAGE_COUNTS - length (page_fields kind)) (pos 0);
      bits = bits ++ replicate (BODY_BITS - carried kind) 0;
    }

-- the record of page bits
abbrev pub record_of : Kind → List ℕ → Page
record_of kind l = record_with (prn_in l) (number_in l) kind (page_counts kind l) (carried_bits kind l)

-- ---- judging and taking

-- judging the counts of a page's fields: 9 at the first bit, in the page, of the first field out of its range
abbrev pub counts_answer3 : List Field → List ℤ → Answer
counts_answer3 fs zs = out_answer FIELD_3 HEAD_BITS fs zs

-- judging the fields that page bits stand for: 9
abbrev pub range_answer : List ℕ → Answer
range_answer l = counts_answer3 (page_fields (kind_of (number_in l))) (page_counts (kind_of (number_in l)) l)

-- judging 250 page bits: 1, 2, then 9
abbrev pub page_answer : List ℕ → Answer
page_answer l = judged (eqb (length l) PAGE_BITS) (eqb (first_not_bit l) (length l)) (first_not_bit l) (range_answer l)

-- taking 250 page bits as a record: 1, 2, then 9
abbrev pub page_taken : List ℕ → Result Page Refusal
page_taken l = given_by (page_answer l) (record_of (kind_of (number_in l)) l)

-- ---- putting back

-- the page number is the record's own: 1 and 6 for theirs, and for bare bits any other up to 63
abbrev pub is_own : Kind → ℕ → Bool
is_own One number = eqb number 1
is_own Six number = eqb number 6
is_own Bare number = leb number 63 && (not (eqb number 1) && not (eqb number 6))

-- the page number's first bit: 9
abbrev pub NUMBER_BIT : ℕ
NUMBER_BIT = 9

-- judging page number and counts: 9 at 9 for a page number that is not the record's own, then 9 at the first bit of the first field
-- out of its range
abbrev pub fields_answer3 : Kind → ℕ → List ℤ → Answer
fields_answer3 kind number zs = in_turn (done_if (is_own kind number) FIELD_3 NUMBER_BIT) (counts_answer3 (page_fields kind) zs)

-- putting the parts of a record into 250 bytes: 1, then 2 at the index of the first carried bit that is none, then 9
abbrev pub parts_answer : Kind → ℕ → List ℤ → List ℕ → List ℕ → Answer
parts_answer kind number zs bits out =
    judged (eqb (length out) PAGE_BITS) (eqb (first_not_bit bits) (length bits)) (first_not_bit bits) (fields_answer3 kind number zs)

-- the page bits of these parts: PRN, page number, the fields, and the bits that are carried as bits
abbrev pub page_from : ℕ → ℕ → List Field → List ℤ → List ℕ → List ℕ
page_from prn number fs zs bits = bits_of 8 prn ++ (bits_of 6 number ++ (bits_of_counts fs zs ++ bits))

-- the bytes then: the page bits; on a refusal they stay
abbrev pub parts_bytes : ℕ → Kind → ℕ → List ℤ → List ℕ → List ℕ → List ℕ
parts_bytes prn kind number zs bits out = left_by (parts_answer kind number zs bits out) (page_from prn number (page_fields kind) zs bits) out

-- the counts of a record that its kind uses
abbrev pub used_counts : Page → List ℤ
used_counts page = take (length (page_fields page.kind)) page.counts

-- the bits of a record that its kind uses
abbrev pub used_bits : Page → List ℕ
used_bits page = take (carried page.kind) page.bits

-- putting a record into 250 bytes: 1, then 2 at the index of the first of its bits that is none, then 9
abbrev pub put_page_answer : Page → List ℕ → Answer
put_page_answer page out = parts_answer page.kind page.number (used_counts page) (used_bits page) out

-- the bytes then: the page bits of the record; on a refusal they stay
abbrev pub put_page_bytes : Page → List ℕ → List ℕ
put_page_bytes page out = parts_bytes page.prn page.kind page.number (used_counts page) (used_bits page) out
