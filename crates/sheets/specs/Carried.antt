-- THEOREMS: the numbers of a sheet are what a frame carries beside its page: a time and the counts of subframe 2.
-- Assumes nothing.
use Rattle.std.specs.Prelude.{◌≡◌, refl, true, List, [], ◌∷◌, ℕ, leb, ℤ, pos, negsuc, length, drop}
use Rattle.std.proofs.Math.Bool.{and-eq-true_iff}
use Rattle.std.proofs.Common.{arith, le-leb}
use Rattle.words.specs.Bits.{IsBits}
use Rattle.words.specs.Time.{LAST_TOI}
use Rattle.fields.specs.Table.{fields_in}
use Rattle.fields.specs.Counts.{counts_in, in_range, AllInRange}
use Rattle.fields.specs.Laws.Counts.{range_most, range_head, range_tail, more_in_range}
use Rattle.fields.specs.Pages.{PAGE_BITS, HEAD_BITS, number_in}
use Rattle.fields.specs.declared.table.Table.TheVariants.{Subframe2, Page1}
use Rattle.frames.specs.Frame.{Contents, GoodContents}
use Rattle.sheets.specs.List.{sheet_rows, sheet_fields}
use Rattle.sheets.specs.Contents.{numbers_of, CarriedBy}
use Rattle.sheets.specs.Laws.Lengths.{toi_field}

-- The numbers of good contents are good numbers of a sheet.
pub contents_numbers : (c : Contents) → GoodContents c → AllInRange sheet_fields (numbers_of c)
unfolding sheet_fields sheet_rows fields_in
contents_numbers c good =
    more_in_range toi_field (fields_in Subframe2) (pos c.toi) c.counts
    ((and-eq-true_iff (leb 0 c.toi) (leb c.toi LAST_TOI)).1 (le-leb 0 c.toi (omega arith), le-leb c.toi LAST_TOI good.time))
    good.fields

-- Good numbers of a sheet, with any good page, are the numbers of good contents.
pub numbers_contents : (zs : List ℤ) (page : List ℕ) → AllInRange sheet_fields zs → length page ≡ PAGE_BITS → IsBits page
    → (number_in page ≡ 1 → AllInRange (fields_in Page1) (counts_in (fields_in Page1) (drop HEAD_BITS page))) → CarriedBy zs page
unfolding sheet_fields sheet_rows fields_in
numbers_contents [] page range long bits one = absurd (omega (arith, range.as_many))
numbers_contents (pos toi ∷ counts) page range long bits one =
    let head = range_head toi_field (fields_in Subframe2) (pos toi) counts range in
    record {
      contents = record { toi = toi; counts = counts; page = page };
      numbers = refl;
      page_agrees = refl;
      good = record {
        time = range_most toi_field (pos toi) head;
        fields = range_tail toi_field (fields_in Subframe2) (pos toi) counts range;
        long = long;
        bits = bits;
        page_1 = one;
      };
    }
numbers_contents (negsuc n ∷ counts) page range long bits one =
    let head : in_range toi_field (negsuc n) ≡ true = range_head toi_field (fields_in Subframe2) (negsuc n) counts range in
    absurd (let z : ◌≡◌ {A = ℕ} 0 1 = cc in omega arith)
