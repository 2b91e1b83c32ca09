-- What the way back prints for contents: the input in it, and that different contents have different texts.
-- Assumes nothing.
use Rattle.std.specs.Prelude.{◌≡◌, refl, List, ◌∷◌, ◌++◌, ℕ, ◌+◌, ℤ, pos, length, drop}
use Rattle.std.proofs.Math.Path.{sym}
use Rattle.std.proofs.Common.{ap, ◌∙◌, append_assoc, arith, length-append}
use Rattle.frames.specs.Frame.{Contents, GoodContents}
use Rattle.sheets.specs.Text.{LINE_END, bytes_in, index_of}
use Rattle.sheets.specs.Number.{decimal, numeral}
use Rattle.sheets.specs.Numerals.{numerals_differ}
use Rattle.sheets.specs.Write.{sheet_text}
use Rattle.sheets.specs.Writing.{written_right}
use Rattle.sheets.specs.Contents.{numbers_of}
use Rattle.sheets.specs.Carried.{contents_numbers}
use Rattle.sheets.specs.Laws.Numerals.{numeral_without}
use Rattle.sheets.specs.Laws.Text.{index_past}
use Rattle.programs.specs.Building.{IsInput, first_line, after_first, input_contents}
use Rattle.programs.specs.Reading.{input_text, contents_text}
use Rattle.programs.specs.Laws.Inputs.{right_contents}
use Rattle.programs.specs.Laws.Lines.{first_is, after_is}

-- the input in the list's order is right
pub input_right : (c : Contents) → GoodContents c → IsInput c (input_text c)
unfolding input_text
input_right c good = record {
  good = good;
  sheet = sheet_text (numbers_of c);
  is_sheet = written_right (numbers_of c) (contents_numbers c good);
  text = refl;
}

-- the line `corrected N`
abbrev corrected_line : ℕ → List ℕ
corrected_line places = bytes_in "corrected " ++ decimal places

decimal_is : (n : ℕ) → decimal n ≡ numeral (pos n)
unfolding numeral
decimal_is n = refl

corrected_none : (places : ℕ) → index_of LINE_END (corrected_line places) ≡ length (corrected_line places)
unfolding numeral index_of
corrected_none places =
    index_past LINE_END (bytes_in "corrected ") (decimal places) refl
    ∙ ap (λ (n : ℕ). 10 + n) (numeral_without LINE_END (omega arith) (pos places))
    ∙ sym (length-append (bytes_in "corrected ") (decimal places))

module _ (c : Contents) (places : ℕ) where
  contents_cut : contents_text c places ≡ corrected_line places ++ LINE_END ∷ input_text c
  unfolding contents_text
  contents_cut = sym (append_assoc (bytes_in "corrected ") (decimal places) (LINE_END ∷ input_text c))

  pub contents_after : after_first (contents_text c places) ≡ input_text c
  contents_after = ap after_first contents_cut ∙ after_is (corrected_line places) (input_text c) (corrected_none places)

  contents_first : first_line (contents_text c places) ≡ corrected_line places
  contents_first = ap first_line contents_cut ∙ first_is (corrected_line places) (input_text c) (corrected_none places)

pub texts_differ : (c d : Contents) (m n : ℕ) → GoodContents c → GoodContents d → contents_text c m ≡ contents_text d n → (c ≡ d) × (m ≡ n)
texts_differ c d m n good_c good_d e =
    let inputs : input_text c ≡ input_text d = sym (contents_after c m) ∙ ap after_first e ∙ contents_after d n in
    let lines : corrected_line m ≡ corrected_line n = sym (contents_first c m) ∙ ap first_line e ∙ contents_first d n in
    let numerals : numeral (pos m) ≡ numeral (pos n) = sym (decimal_is m) ∙ ap (drop 10) lines ∙ decimal_is n in
    let same : ◌≡◌ {A = ℤ} (pos m) (pos n) = numerals_differ (pos m) (pos n) numerals in (
      sym (right_contents c (input_text c) (input_right c good_c)) ∙ ap input_contents inputs ∙ right_contents d (input_text d) (input_right d good_d),
      cc,
    )
