-- What a refusal is: the table "Numbers given on refusal" of document 01.
-- Assumes nothing.
use Rattle.std.specs.Prelude.{Bool, true, false, cond, List, [], ◌++◌, ℕ, Result, Ok, Err, ⊤, codes, decimal}
use Rattle.words.specs.declared.refusal.Refusal.{Refusal}
use Rattle.words.specs.declared.refusal.Rule.{Rule}
use Rattle.words.specs.declared.refusal.Rule.TheVariants.{Length, NotABit, Time, Equation2, Check2, Field2, Equation3, Check3, Field3, Trailer, Line, Name, NameAgain, Number, NameMissing, Room}

-- a lent buffer has not the stated length, or a reader's place is past its end
abbrev pub LENGTH : ℕ
LENGTH = 1

-- a byte is neither 0 nor 1
abbrev pub NOT_A_BIT : ℕ
NOT_A_BIT = 2

-- time: no TOI within nine, or TOI over 399 in building
abbrev pub TIME : ℕ
TIME = 3

-- an equation of subframe 2 isn't met
abbrev pub EQUATION_2 : ℕ
EQUATION_2 = 4

-- check bits of subframe 2 differ
abbrev pub CHECK_2 : ℕ
CHECK_2 = 5

-- a field of subframe 2 out of range, or reserved bits set
abbrev pub FIELD_2 : ℕ
FIELD_2 = 6

-- an equation of subframe 3 isn't met
abbrev pub EQUATION_3 : ℕ
EQUATION_3 = 7

-- check bits of subframe 3 differ
abbrev pub CHECK_3 : ℕ
CHECK_3 = 8

-- a field of page 1 out of range
abbrev pub FIELD_3 : ℕ
FIELD_3 = 9

-- trailer absent, malformed, over 4096 or pointing before the buffer
abbrev pub TRAILER : ℕ
TRAILER = 10

-- line without `=` or without its end
abbrev pub LINE : ℕ
LINE = 11

-- name not on the list
abbrev pub NAME : ℕ
NAME = 12

-- name already given
abbrev pub NAME_AGAIN : ℕ
NAME_AGAIN = 13

-- number malformed or out of the field's range
abbrev pub NUMBER : ℕ
NUMBER = 14

-- a name is missing
abbrev pub NAME_MISSING : ℕ
NAME_MISSING = 15

-- writing a sheet into fewer bytes than it has
abbrev pub ROOM : ℕ
ROOM = 16

-- the table's number of a rule
abbrev pub number : Rule → ℕ
number Length = LENGTH
number NotABit = NOT_A_BIT
number Time = TIME
number Equation2 = EQUATION_2
number Check2 = CHECK_2
number Field2 = FIELD_2
number Equation3 = EQUATION_3
number Check3 = CHECK_3
number Field3 = FIELD_3
number Trailer = TRAILER
number Line = LINE
number Name = NAME
number NameAgain = NAME_AGAIN
number Number = NUMBER
number NameMissing = NAME_MISSING
number Room = ROOM

-- the refusal with this number, at this place
abbrev pub refusal_at : ℕ → ℕ → Refusal
refusal_at number place = record { number = number; place = place }

-- nothing is given but that refusal
abbrev pub refused_at : {A : Type 0} → ℕ → ℕ → Result A Refusal
refused_at number place = Err (refusal_at number place)

-- an answer: nothing is refused, or the refusal
abbrev pub Answer : Type 0
Answer = Result ⊤ Refusal

abbrev pub Done : Answer
Done = Ok tt

-- the answer of what is given or refused
abbrev pub answer_of : {A : Type 0} → Result A Refusal → Answer
answer_of (Ok x) = Done
answer_of (Err r) = Err r

-- what is given by an answer: this where nothing is refused, and else the refusal
abbrev pub given_by : {A : Type 0} → Answer → A → Result A Refusal
given_by (Ok _) x = Ok x
given_by (Err r) x = Err r

-- how a refusal is written: `refused N at P`
abbrev pub refusal_text : ℕ → ℕ → List ℕ
refusal_text number place = codes "refused " ++ (decimal number ++ (codes " at " ++ decimal place))

-- done where the test holds, and else the refusal with this number, at this place
abbrev pub done_if : Bool → ℕ → ℕ → Answer
done_if test number place = cond test Done (refused_at number place)

-- the list that is given, empty where it is refused
abbrev pub list_given : {A : Type 0} → Result (List A) Refusal → List A
list_given (Ok l) = l
list_given (Err r) = []

-- judged in turn: the first refusal of the two, and where neither refuses what the second gives
abbrev pub in_turn : {A : Type 0} → Answer → Result A Refusal → Result A Refusal
in_turn (Ok _) next = next
in_turn (Err r) next = Err r

-- how lent bytes are judged before anything is done with them: 1 at 0 unless the lengths are right, then 2 at the first byte that is
-- neither 0 nor 1, and then what else is answered
abbrev pub judged : Bool → Bool → ℕ → Answer → Answer
judged lengths bits first_not answer = cond lengths (cond bits answer (refused_at NOT_A_BIT first_not)) (refused_at LENGTH 0)

-- what is then left in lent bytes: the new ones where the test holds, and else the bytes as they were
abbrev pub left_if : Bool → List ℕ → List ℕ → List ℕ
left_if true new l = new
left_if false new l = l

-- the same by an answer: the new bytes where nothing is refused, and else the bytes as they were
abbrev pub left_by : Answer → List ℕ → List ℕ → List ℕ
left_by (Ok _) new l = new
left_by (Err r) new l = l

-- the table's number of an answer, 0 where nothing was refused
abbrev pub number_of : Answer → ℕ
number_of (Ok _) = 0
number_of (Err r) = r.number

-- the table's place of an answer, 0 where nothing was refused
abbrev pub place_of : Answer → ℕ
place_of (Ok _) = 0
place_of (Err r) = r.place
