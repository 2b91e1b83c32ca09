-- What reading a time finds, case by case.
-- Assumes nothing.
use Rattle.std.specs.Prelude.{◌≡◌, Bool, cond, List, ℕ, ◌≤◌, ◌<◌}
use Rattle.std.proofs.Math.Path.{refl}
use Rattle.std.proofs.Common.{ap, ◌∙◌, ⊎_elim}
use Rattle.std.proofs.Math.Bool.{true, false}
use native.Mathlib.Omega.{arith}
use Rattle.std.proofs.Math.Dec.{eqb}
use Rattle.std.proofs.Math.ListN.{length}
use borrow.Author.Tests.{eqb-true, eqb-false, eq-eqb}
use Rattle.words.specs.Bits.{IsBits, first_not_bit, bits_judged}
use Rattle.words.specs.Refusal.{LENGTH, NOT_A_BIT, TIME, refused_at, done_if, in_turn}
use Rattle.words.specs.Time.{IsTime, time_is, nearest_time, time_read}
use Rattle.words.specs.Distance.{one_within}
use Rattle.words.specs.Laws.Digits.{none_not_bit, not_bit_le}
use Rattle.words.specs.Laws.Nearest.{nearest_found, nearest_none, nearest_hit, nearest_is}

pub data Judged (s : List ℕ) : Type 0 where
  wrong_length : (length s ≡ 52 → ⊥) → time_read s ≡ refused_at LENGTH 0 → Judged s
  wrong_byte : length s ≡ 52 → first_not_bit s < 52 → time_read s ≡ refused_at NOT_A_BIT (first_not_bit s) → Judged s
  time_missing : length s ≡ 52 → IsBits s → ((toi places : ℕ) → IsTime s toi places → ⊥) → time_read s ≡ refused_at TIME 0 → Judged s
  a_time : length s ≡ 52 → IsBits s → (toi places : ℕ) → IsTime s toi places → time_read s ≡ time_is toi places → Judged s

module _ (s : List ℕ) where
  -- 52 symbols are judged by their bits, then by the search
  pub time_turns : length s ≡ 52 → time_read s ≡ in_turn (bits_judged s) (nearest_time 400 0 s)
  unfolding time_read
  time_turns l = rw (eq-eqb (length s) 52 l) (go (eqb (first_not_bit s) (length s)))
    where
      go : (t : Bool) → cond t (nearest_time 400 0 s) (refused_at NOT_A_BIT (first_not_bit s))
          ≡ in_turn (done_if t NOT_A_BIT (first_not_bit s)) (nearest_time 400 0 s)
      go true = refl
      go false = refl

  -- 52 bits are judged by the search alone
  pub read_bits : length s ≡ 52 → first_not_bit s ≡ length s → time_read s ≡ nearest_time 400 0 s
  unfolding time_read
  read_bits l b = rw (eq-eqb (length s) 52 l, eq-eqb (first_not_bit s) (length s) b) refl

  searched : length s ≡ 52 → first_not_bit s ≡ length s → Judged s
  searched l b =
      ⊎_elim
      (λ h. found h.0 h.1 h.2)
      (λ e. time_missing l (none_not_bit s b) (λ toi places t. omega (
        arith,
        nearest_none 400 0 s e toi (omega arith) (omega (arith, t.used)),
        t.counted,
        t.near,
      )) (read_bits l b ∙ e))
      (nearest_is 400 0 s)
    where
      found : (u d : ℕ) → nearest_time 400 0 s ≡ time_is u d → Judged s
      found u d e =
          let f = nearest_found 400 0 s u d e in
          a_time l (none_not_bit s b) u d (record { used = omega arith; counted = f.1; near = f.2 }) (read_bits l b ∙ e)

  -- these are all the cases
  pub judged : Judged s
  unfolding time_read
  judged = go (eqb (length s) 52) refl
    where
      byte : (t : Bool) → eqb (first_not_bit s) (length s) ≡ t → length s ≡ 52 → Judged s
      byte true e l = searched l (eqb-true (first_not_bit s) (length s) e)
      byte false e l =
          wrong_byte l (below (eqb-false (first_not_bit s) (length s) e) (not_bit_le s) l) (rw (eq-eqb (length s) 52 l, e) refl)
        where
          below : (first_not_bit s ≡ length s → ⊥) → first_not_bit s ≤ length s → length s ≡ 52 → first_not_bit s < 52
          below ne le l = omega arith

      go : (t : Bool) → eqb (length s) 52 ≡ t → Judged s
      go true e = byte (eqb (first_not_bit s) (length s)) refl (eqb-true (length s) 52 e)
      go false e = wrong_length (eqb-false (length s) 52 e) (rw e refl)

  -- a time within nine is what the search finds
  pub hit : (toi places : ℕ) → length s ≡ 52 → first_not_bit s ≡ length s → IsTime s toi places → time_read s ≡ time_is toi places
  hit toi places l b h =
      read_bits l b
      ∙ nearest_hit 400 0 s toi (omega arith) (omega (arith, h.used)) (omega (arith, h.counted, h.near))
      (λ v g n. one_within s l v toi (omega arith) (omega (arith, h.used)) n (omega (arith, h.counted, h.near)))
      ∙ ap (time_is toi) h.counted
