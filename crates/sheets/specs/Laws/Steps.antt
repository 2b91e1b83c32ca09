-- What the functions of `sheets` below the public ones give.
-- Assumes nothing.
use Rattle.std.specs.Prelude.{◌≡◌, refl, Option, Some, None, is_some, is_none, unwrap_or, map, Result, Ok, Err, Bool, true, false, cond, not, ◌&&◌, List, ℕ, ◌+◌, min, eqb, ltb, ℤ, pos, neg_ℤ, length, get_or}
use Rattle.std.specs.List.{position_or_len}
use Rattle.std.specs.Option.{ok_or}
use Rattle.words.specs.Refusal.{NAME_MISSING, refused_at}
use Rattle.words.specs.declared.refusal.Refusal.{Refusal}
use Rattle.words.specs.declared.refusal.Rule.{Rule}
use Rattle.words.specs.declared.refusal.Rule.TheVariants.{Line, Name, NameAgain, Number}
use Rattle.fields.specs.Table.{no_field}
use Rattle.fields.specs.Counts.{in_range}
use Rattle.fields.specs.declared.table.Field.{Field}
use Rattle.sheets.specs.List.{sheet_names, sheet_fields, position_in}
use Rattle.sheets.specs.Number.{all_digits, decimal_in, is_plain, is_number_of, value_in}
use Rattle.sheets.specs.Text.{index_of}
use Rattle.sheets.specs.Trailer.{is_trailer, digits_in, has_trailer, start_of}
use Rattle.sheets.specs.Lines.{has_equals, name_in, behind_equals, is_listed}
use Rattle.sheets.specs.Sheet.{sheet_is}
use Rattle.sheets.specs.declared.sheet.Sheet.{Sheet}

-- ---- a place where the test holds, and none where it doesn't

pub some_is : (test : Bool) (n k : ℕ) → cond test (Some n) None ≡ Some k → (test ≡ true) × (n ≡ k)
some_is true n k e = (refl, cc)
some_is false n k e = (cc, cc)

pub none_is : (test : Bool) (n : ℕ) → cond test (Some n) None ≡ None → test ≡ false
none_is true n e = cc
none_is false n e = refl

-- what there was, and what there was not, where it is asked for with an error
pub ok_is : {T E : Type 0} (r : Option T) (e : E) (x : T) → ok_or r e ≡ Ok x → r ≡ Some x
ok_is None e x h = cc
ok_is (Some y) e x h = let f : y ≡ x = cc in cc

pub err_is : {T E : Type 0} (r : Option T) (e f : E) → ok_or r e ≡ Err f → (r ≡ None) × (f ≡ e)
err_is None e f h = (refl, cc)
err_is (Some y) e f h = (cc, cc)

-- where the first byte b stands
abbrev pub first_at : ℕ → List ℕ → Option ℕ
first_at b s = cond (ltb (index_of b s) (length s)) (Some (index_of b s)) None

-- ---- numbers

-- numbers are told apart below 2^40, which is beyond every field's range
abbrev pub BEYOND : ℕ
BEYOND = 1099511627776

-- the number of digits, at most BEYOND
abbrev pub digits_by : Bool → List ℕ → Option ℕ
digits_by right l = cond right (Some (min (decimal_in l) BEYOND)) None

abbrev pub digits_read : List ℕ → Option ℕ
digits_read l = digits_by (all_digits l) l

abbrev pub plain_read : List ℕ → Option ℕ
plain_read l = digits_by (is_plain l) l

-- which it was
pub digits_are : (right : Bool) (l : List ℕ) (v : ℕ) → digits_by right l ≡ Some v → (right ≡ true) × (v ≡ min (decimal_in l) BEYOND)
digits_are true l v e = (refl, cc)
digits_are false l v e = (cc, cc)

pub digits_are_not : (right : Bool) (l : List ℕ) → digits_by right l ≡ None → right ≡ false
digits_are_not true l e = cc
digits_are_not false l e = refl

-- a number where the test holds and it is in the field's range
abbrev pub number_by : Bool → Field → ℤ → Option ℤ
number_by right f z = cond (right && in_range f z) (Some z) None

-- the number behind a `-`
abbrev pub negative_read : Field → List ℕ → Option ℤ
negative_read f l = number_by (is_plain l && not (eqb (decimal_in l) 0)) f (neg_ℤ (pos (decimal_in l)))

-- the number without a sign
abbrev pub positive_read : Field → List ℕ → Option ℤ
positive_read f l = number_by (is_plain l) f (pos (decimal_in l))

abbrev pub number_read : Field → List ℕ → Option ℤ
number_read f l = cond (is_number_of f l) (Some (value_in l)) None

-- ---- the trailer

-- what eleven bytes count, where they are a trailer
abbrev pub count_read : List ℕ → Option ℕ
count_read trailer = digits_by (is_trailer trailer) (digits_in trailer)

-- where the sheet at the end of s begins
abbrev pub start_read : List ℕ → Option ℕ
start_read s = cond (has_trailer s) (Some (start_of s)) None

-- ---- a line

-- a name's position, where it is on the list
abbrev pub listed_at : List ℕ → Option ℕ
listed_at name = cond (is_listed name) (Some (position_in name sheet_names)) None

abbrev pub line_by : ℕ → Option ℤ → Result (ℕ × ℤ) Rule
line_by k (Some z) = Ok (k, z)
line_by k None = Err Number

-- a line of the name at position k, where these numbers are found
unfoldable pub named_line : ℕ → List ℕ → List (Option ℤ) → Result (ℕ × ℤ) Rule
named_line k text found =
    cond (ltb k (length sheet_names))
    (cond (is_some (get_or found k None)) (Err NameAgain) (line_by k (number_read (get_or sheet_fields k no_field) text)))
    (Err Name)

-- a line without its end
unfoldable pub line_read : List ℕ → List (Option ℤ) → Result (ℕ × ℤ) Rule
line_read line found =
    cond (has_equals line) (named_line (position_in (name_in line) sheet_names) (behind_equals line) found) (Err Line)

-- ---- the sheet

-- after the last line
unfoldable pub finished_sheet : List (Option ℤ) → ℕ → Result Sheet Refusal
finished_sheet found before =
    cond (ltb (position_or_len is_none found) (length found))
    (refused_at NAME_MISSING (position_or_len is_none found + 1))
    (sheet_is (map (λ (number : Option ℤ). unwrap_or number (pos 0)) found) before)
