-- The first character that is no symbol, as it is searched for, and symbols and characters from an index on, as the loops walk them.
-- Assumes nothing.
use mathlib.Core.Path.{◌≡◌, refl, sym, ap, ◌∙◌}
use mathlib.Core.Bool.{Bool, true, false, not, cond}
use mathlib.Core.List.{List, ◌++◌, append-nil}
use Prim.Native.Nat.{ℕ, suc, ◌+◌, ◌-◌, ◌≤◌, ◌<◌}
use native.Mathlib.Numerals.{add-one}
use native.Mathlib.Omega.{arith}
use lib.ListN.{length, get_or, drop, set, drop_of_length-le}
use lib.Seq.{sets, drop-cons}
use borrow.Author.Tests.{ltb-true, ltb-false}
use Rattle.sheets.specs.Laws.Sets.{sets_front}
use Rattle.programs.specs.Symbols.{ZERO, is_symbol, first_other, symbols_in, characters_of}
use Rattle.programs.specs.Laws.Symbols.{other_le}
use Rattle.std.specs.List.{position, position_or_len}
use Rattle.std.specs.Prelude.{Option, Some, None, MatchOption, nat_lt}
use Rattle.std.proofs.lemmas.List.Recursion.{is_position_or_len}

-- ---- the first other character

abbrev pub is_other : ℕ → Bool
is_other c = not (is_symbol c)

module _ (l : List ℕ) where
  other_place : position_or_len is_other l ≡ first_other l
  unfolding first_other
  other_place = sym (is_position_or_len first_other is_other refl (λ c m. step (is_symbol c) (first_other m)) l)
    where
      step : (t : Bool) (n : ℕ) → cond t (suc n) 0 ≡ cond (not t) 0 (1 + n)
      step true n = omega arith
      step false n = refl

  -- what is found: none, or the first
  abbrev pub FoundOther : Option ℕ → Type 0
  FoundOther o = MatchOption o (first_other l ≡ length l) (λ (other : ℕ). (first_other l ≡ other) × (other < length l))

  pub other_found : FoundOther (position is_other l)
  other_found = go (nat_lt (position_or_len is_other l) (length l)) refl
    where
      go : (t : Bool) → nat_lt (position_or_len is_other l) (length l) ≡ t → FoundOther (cond t (Some (position_or_len is_other l)) None)
      go true e = (sym other_place, ltb-true (position_or_len is_other l) (length l) e)
      go false e = omega (arith, other_place, other_le l, ltb-false (position_or_len is_other l) (length l) e)

-- ---- a turn

module _ (l : List ℕ) (i : ℕ) (h : i < length l) (o : List ℕ) where
  -- one more symbol is written, and one fewer is left to write
  pub symbol_put : sets (set o i (get_or l i 0 - ZERO)) (i + 1) (symbols_in (drop (i + 1) l)) ≡ sets o i (symbols_in (drop i l))
  unfolding symbols_in
  symbol_put = rw (add-one, drop-cons l i 0 h, symbols_in)

  -- and one more character
  pub character_put : sets (set o i (ZERO + get_or l i 0)) (i + 1) (characters_of (drop (i + 1) l)) ≡ sets o i (characters_of (drop i l))
  unfolding characters_of
  character_put = rw (add-one, drop-cons l i 0 h, characters_of)

-- ---- at the end

module _ (l : List ℕ) (i : ℕ) (h : length l ≤ i) (o : List ℕ) where
  pub symbols_end : sets o i (symbols_in (drop i l)) ≡ o
  unfolding symbols_in
  symbols_end = ap (λ (r : List ℕ). sets o i (symbols_in r)) (drop_of_length-le l h)

  pub characters_end : sets o i (characters_of (drop i l)) ≡ o
  unfolding characters_of
  characters_end = ap (λ (r : List ℕ). sets o i (characters_of r)) (drop_of_length-le l h)

-- a text over as many bytes: nothing else is left
pub all_written : (l o : List ℕ) → length l ≡ length o → sets o 0 l ≡ l
all_written l o e =
    let none : length o ≤ length l = omega arith in
    sets_front l o (omega arith)
    ∙ ap (λ (r : List ℕ). l ++ r) (drop_of_length-le o none)
    ∙ append-nil l
