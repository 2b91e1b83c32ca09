-- THEOREMS: how far time words are from one another.
-- Assumes nothing.
use Rattle.std.specs.Prelude.{◌≡◌, refl, Bool, true, false, List, ℕ, zero, suc, ◌≤◌, ◌<◌, eqb, length}
use Rattle.std.proofs.Common.{sym, ap, ◌∙◌, subst, arith, eqb-true}
use Rattle.std.specs.Int.Bits.{bit_xor}
use Rattle.std.proofs.lemmas.Nat.{xor_lt}
use Rattle.std.proofs.lemmas.Bool.{eqb-false}
use Rattle.words.specs.Sums.{weight, differing}
use Rattle.words.specs.Time.{time_word}
use Rattle.words.specs.Linear.{word_linear}
use Rattle.words.specs.Laws.Sums.{differing_weight, differing_comm, triangle}
use Rattle.words.specs.Laws.Xor.{xor_equal}
use Rattle.words.specs.Laws.Words.{word_length, word_are, word_heavy}

-- The words of two different times of nine bits differ in at least 20 symbols.
pub words_apart : (t u : ℕ) → t < 512 → u < 512 → (t ≡ u → ⊥) → 20 ≤ differing (time_word t) (time_word u)
words_apart t u ht hu ne = go (bit_xor t u) refl
  where
    far : differing (time_word t) (time_word u) ≡ weight (time_word (bit_xor t u))
    far =
        differing_weight (time_word t) (time_word u) (word_length t ∙ sym (word_length u)) (word_are t) (word_are u)
        ∙ ap weight (sym (word_linear t u))

    go : (x : ℕ) → bit_xor t u ≡ x → 20 ≤ differing (time_word t) (time_word u)
    go zero e = absurd (ne (xor_equal t u e))
    go (suc x) e =
        subst (λ (n : ℕ). 20 ≤ n) (sym (far ∙ ap (λ (n : ℕ). weight (time_word n)) e))
        (word_heavy x (omega (arith, xor_lt 9 t u ht hu, e)))

-- At most one time of nine bits has its word within nine of any 52 symbols.
pub one_within : (s : List ℕ) → length s ≡ 52 → (t u : ℕ) → t < 512 → u < 512
    → differing s (time_word t) ≤ 9 → differing s (time_word u) ≤ 9 → t ≡ u
one_within s l t u ht hu p q = go (eqb t u) refl
  where
    go : (b : Bool) → eqb t u ≡ b → t ≡ u
    go true e = eqb-true t u e
    go false e =
        absurd (omega (
          arith,
          words_apart t u ht hu (eqb-false t u e),
          triangle (time_word t) s (time_word u) (word_length t ∙ sym l) (l ∙ sym (word_length u)),
          differing_comm (time_word t) s,
        ))
