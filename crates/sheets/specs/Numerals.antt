-- THEOREMS: which texts are numbers, and that each number is written in one way alone.
-- Assumes nothing.
use Rattle.std.specs.Prelude.{◌≡◌, true, List, ◌↔◌, ℕ, ℤ}
use Rattle.std.proofs.Common.{sym, ap, ◌∙◌}
use Rattle.sheets.specs.Number.{is_number, value_in, numeral}
use Rattle.sheets.specs.Laws.Numerals.{numeral_is, numeral_value, numeral_only}

-- A text is a number exactly if it is one as it is written: what it stands for, written again, is the same text.
pub number_exactly : (l : List ℕ) (z : ℤ) → ((is_number l ≡ true) × (value_in l ≡ z)) ↔ (l ≡ numeral z)
number_exactly l z = (
  λ h. sym (numeral_only l h.0) ∙ ap numeral h.1,
  λ e. (ap is_number e ∙ numeral_is z, ap value_in e ∙ numeral_value z),
)

-- Two different numbers are written differently.
pub numerals_differ : (y z : ℤ) → numeral y ≡ numeral z → y ≡ z
numerals_differ y z e = sym (numeral_value y) ∙ ap value_in e ∙ numeral_value z
