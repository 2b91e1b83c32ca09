-- The first name that is missing.
-- Assumes nothing.
use Rattle.std.specs.Prelude.{◌≡◌, refl, Bool, true, cond, List, [], ◌∷◌, ◌⊎◌, ℕ, zero, suc, ◌+◌, ◌≤◌, ◌<◌, get_or}
use Rattle.std.proofs.Common.{sym, ◌∙◌, inl, inr, arith, eq-eqb, ne_eqb}
use Rattle.std.proofs.Math.Path.{ap}
use Rattle.std.proofs.Math.Bool.{false}
use Rattle.std.proofs.Math.ListN.{length, get_or-eq_default}
use Rattle.words.specs.Refusal.{NAME_MISSING, refused_at, done_if, Done}
use Rattle.tables.specs.Laws.Cases.{before_or_not}
use Rattle.sheets.specs.List.{sheet_names}
use Rattle.sheets.specs.Lines.{given_in, first_missing, missing_answer}
use Rattle.sheets.specs.Due.{GivenBy, FirstMissingAt}
use Rattle.sheets.specs.Laws.LineTexts.{given_is, given_when, not_given}
use Rattle.sheets.specs.Laws.Lines.{given_many, given_at}

-- ---- of any tests

-- the tests before index k hold, and that at k does not
record FirstNot (l : List Bool) (k : ℕ) : Type 0 where
  not_this : get_or l k false ≡ false
  before : (j : ℕ) → j < k → get_or l j false ≡ true

missing_is : (l : List Bool) → FirstNot l (first_missing l)
unfolding first_missing
missing_is [] = record { not_this = refl; before = λ j h. absurd (omega arith) }
missing_is (t ∷ l) = go t (missing_is l)
  where
    later : FirstNot l (first_missing l) → (j : ℕ) → j < suc (first_missing l) → get_or (true ∷ l) j false ≡ true
    later r zero h = refl
    later r (suc j) h = r.before j (omega arith)

    go : (t : Bool) → FirstNot l (first_missing l) → FirstNot (t ∷ l) (cond t (suc (first_missing l)) 0)
    go true r = record { not_this = r.not_this; before = later r }
    go false r = record { not_this = refl; before = λ j h. absurd (omega arith) }

missing_when : (l : List Bool) (k : ℕ) → k ≤ length l → FirstNot l k → first_missing l ≡ k
unfolding first_missing
missing_when [] k h r = omega arith
missing_when (t ∷ l) zero h r = ap (λ (x : Bool). cond x (suc (first_missing l)) 0) r.not_this
missing_when (t ∷ l) (suc k) h r =
    ap (λ (x : Bool). cond x (suc (first_missing l)) 0) (r.before 0 (omega arith))
    ∙ ap suc (missing_when l k (omega arith) (record { not_this = r.not_this; before = λ j b. r.before (suc j) (omega arith) }))

-- ---- of the names of the list

module _ (lines : List (List ℕ)) where
  -- all names are given
  abbrev pub AllGiven : Type 0
  AllGiven = (k : ℕ) → k < length sheet_names → GivenBy (get_or sheet_names k []) lines

  pub none_missing : AllGiven → missing_answer lines ≡ Done
  unfolding missing_answer
  none_missing all =
      let many = given_many lines in
      let is : first_missing (given_in lines) ≡ length sheet_names =
      missing_when (given_in lines) (length sheet_names) (omega arith)
      (record {
        not_this = get_or-eq_default (given_in lines) false (omega arith);
        before = λ j h. given_at lines j h ∙ given_when (get_or sheet_names j []) lines (all j h);
      })
      in
      ap (λ (t : Bool). done_if t NAME_MISSING (first_missing (given_in lines) + 1)) (eq-eqb (first_missing (given_in lines)) (length sheet_names) is)

  pub missing_refused : (k : ℕ) → FirstMissingAt lines k → missing_answer lines ≡ refused_at NAME_MISSING (k + 1)
  unfolding missing_answer
  missing_refused k m =
      let many = given_many lines in
      let inside = m.inside in
      let is : first_missing (given_in lines) ≡ k =
      missing_when (given_in lines) k (omega arith)
      (record {
        not_this = given_at lines k inside ∙ not_given (get_or sheet_names k []) lines m.missing;
        before = λ j h. given_at lines j (omega arith) ∙ given_when (get_or sheet_names j []) lines (m.lower j h);
      })
      in
      ap (λ (t : Bool). done_if t NAME_MISSING (first_missing (given_in lines) + 1))
      (ne_eqb (first_missing (given_in lines)) (length sheet_names) (λ e. omega arith))
      ∙ ap (λ (p : ℕ). refused_at NAME_MISSING (p + 1)) is

  -- all names are given, or one is the first that is missing
  pub data MissingView : Type 0 where
    all_given : AllGiven → MissingView
    some_missing : (k : ℕ) → FirstMissingAt lines k → MissingView

  given_below : (k : ℕ) → FirstNot (given_in lines) k → (j : ℕ) → j < k → j < length sheet_names → GivenBy (get_or sheet_names j []) lines
  given_below k r j h b = given_is (get_or sheet_names j []) lines (sym (given_at lines j b) ∙ r.before j h)

  pub missing_view : MissingView
  missing_view = go (first_missing (given_in lines)) (missing_is (given_in lines)) (before_or_not (first_missing (given_in lines)) (length sheet_names))
    where
      go : (k : ℕ) → FirstNot (given_in lines) k → (k < length sheet_names) ⊎ (length sheet_names ≤ k) → MissingView
      go k r (inl h) =
          some_missing k
          (record {
            inside = h;
            missing = λ g. let z : ◌≡◌ {A = Bool} true false = sym (given_when (get_or sheet_names k []) lines g) ∙ sym (given_at lines k h) ∙ r.not_this in let c : ◌≡◌ {A = ℕ} 0 1 = cc in omega arith;
            lower = λ j b. given_below k r j b (omega arith);
          })
      go k r (inr h) = all_given (λ j b. given_below k r j (omega arith) b)
