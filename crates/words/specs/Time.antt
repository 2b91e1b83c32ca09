-- The time word (document 01, "Time word"; IS-GPS-800, 3.2.3.2 and Figure 3.2-4).
-- Assumes nothing.
use Rattle.std.specs.Prelude.{◌≡◌, cond, ◌&&◌, Result, Ok, Err, List, [], ◌∷◌, ◌++◌, map, ℕ, zero, suc, ◌+◌, ◌-◌, ◌/◌, ◌%◌, ◌^◌, ◌≤◌, leb, eqb, length, get_or, drop}
use Rattle.words.specs.Bits.{bits_of, first_not_bit}
use Rattle.words.specs.Sums.{add2, differing}
use Rattle.words.specs.Refusal.{LENGTH, NOT_A_BIT, TIME, Answer, refused_at, done_if, left_if, answer_of, number_of}
use Rattle.words.specs.declared.refusal.Refusal.{Refusal}
use Rattle.words.specs.declared.time.Time.{Time}

-- the register holds the last eight symbols, the oldest first: the symbol k places before the next one
abbrev pub symbol_back : ℕ → List ℕ → ℕ
symbol_back k register = get_or register (8 - k) 0

-- the next symbol: the sum modulo 2 of the ones 1, 4, 5, 6, 7 and 8 places before it
abbrev pub next_symbol : List ℕ → ℕ
next_symbol r = (symbol_back 1 r + symbol_back 4 r + symbol_back 5 r + symbol_back 6 r + symbol_back 7 r + symbol_back 8 r) % 2

-- one shift: the oldest symbol leaves, and the next one comes in
abbrev pub one_shift : List ℕ → List ℕ
one_shift r = drop 1 r ++ (next_symbol r ∷ [])

-- the symbols that leave a register in n shifts
unfoldable pub shifted_out : ℕ → List ℕ → List ℕ
shifted_out zero r = []
shifted_out (suc n) r = symbol_back 8 r ∷ shifted_out n (one_shift r)

-- the top one of a time's nine bits
abbrev pub top_bit : ℕ → ℕ
top_bit toi = toi / 2 ^ 8 % 2

-- 51 symbols from the low eight bits, the top bit added modulo 2 to all, and the top bit sent before them
unfoldable pub time_word : ℕ → List ℕ
time_word toi = top_bit toi ∷ map (add2 (top_bit toi)) (shifted_out 51 (bits_of 8 toi))

-- TOI is 0 to 399 (document 01, "The frame")
abbrev pub LAST_TOI : ℕ
LAST_TOI = 399

-- writing: 1 unless 52 bytes are lent, then 3 for a time over 399; on a refusal the bytes stay
abbrev pub time_answer : List ℕ → ℕ → Answer
time_answer out toi = cond (eqb (length out) 52) (done_if (leb toi LAST_TOI) TIME 0) (refused_at LENGTH 0)

abbrev pub time_bytes : List ℕ → ℕ → List ℕ
time_bytes out toi = left_if (eqb (length out) 52 && leb toi LAST_TOI) (time_word toi) out

-- a time from 0 to 399 whose word differs from the symbols in so many places, at most nine
pub record IsTime (s : List ℕ) (toi places : ℕ) : Type 0 where
  pub used : toi ≤ LAST_TOI
  pub counted : differing s (time_word toi) ≡ places
  pub near : places ≤ 9

-- what reading gives: a time, with the number of symbols that differ from its word; or a refusal
abbrev pub time_is : ℕ → ℕ → Result Time Refusal
time_is toi corrected = Ok (record { toi = toi; corrected = corrected })

-- the number on refusal of what was read, 0 where it was not refused; the time and how many symbols differ, 0 where it was
abbrev pub number_read : Result Time Refusal → ℕ
number_read r = number_of (answer_of r)

abbrev pub toi_read : Result Time Refusal → ℕ
toi_read (Ok t) = t.toi
toi_read (Err r) = 0

abbrev pub corrected_read : Result Time Refusal → ℕ
corrected_read (Ok t) = t.corrected
corrected_read (Err r) = 0

-- of the n times from `toi` on, the first whose word differs in at most nine symbols; refused 3 at 0 if there is none
unfoldable pub nearest_time : ℕ → ℕ → List ℕ → Result Time Refusal
nearest_time zero toi s = refused_at TIME 0
nearest_time (suc n) toi s =
    cond (leb (differing s (time_word toi)) 9) (time_is toi (differing s (time_word toi))) (nearest_time n (suc toi) s)

-- reading: 1 unless there are 52 symbols, then 2 at the first byte that is no bit, then the time from 0 to 399
unfoldable pub time_read : List ℕ → Result Time Refusal
unfolding nearest_time
time_read s =
    cond (eqb (length s) 52)
    (cond (eqb (first_not_bit s) (length s)) (nearest_time 400 0 s) (refused_at NOT_A_BIT (first_not_bit s)))
    (refused_at LENGTH 0)
