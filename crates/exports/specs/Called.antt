-- THEOREMS: what a caller in another language relies on, said of what the calls return: with the stated lengths they answer as the library
-- does, a refusal leaves what is lent, good contents and no others are built, what is built or written is read, and demand 3.
-- Assumes nothing.
use Rattle.std.specs.Prelude.{◌≡◌, refl, Bool, true, false, ◌&&◌, List, [], ◌∷◌, ◌↔◌, ℕ, ◌/◌, ◌≤◌, ◌<◌, eqb, leb, ltb, ℤ, pos, negsuc, length, get_or, drop, take, Err, Ok}
use Rattle.std.proofs.Common.{sym, ap, ◌∙◌, subst, arith, length-drop, length-take, eqb-true, eq-eqb, leb-true, lt-ltb}
use Rattle.std.proofs.Math.Bool.{and-eq-true_iff}
use Rattle.words.specs.Bits.{IsBits, first_not_bit}
use Rattle.words.specs.Refusal.{LENGTH, TIME, refused_at, done_if, left_by, Answer, Done, answer_of, list_given}
use Rattle.words.specs.Sums.{weight}
use Rattle.words.specs.Time.{LAST_TOI, time_is}
use Rattle.words.specs.Unchanged.{Refuses, refused_by_answer}
use Rattle.words.specs.Laws.Digits.{bits_none}
use Rattle.words.specs.Laws.Turns.{both_done, test_done, judged_done}
use Rattle.fields.specs.Subframe2.{COUNTS_2}
use Rattle.fields.specs.Pages.{PAGE_BITS}
use Rattle.tables.specs.declared.matrix.Subframe.TheVariants.{Two, Three}
use Rattle.frames.specs.Frame.{Contents, GoodContents, FRAME, frame_of, IsFrame, time_in, data_in}
use Rattle.frames.specs.Build.{contents_of, build_lengths, contents_answer, build_answer}
use Rattle.frames.specs.Read.{frame_is, frame_read, time_alone, subframe2_alone, subframe3_alone, frame_corrected, time_numbers, frame_numbers, frame_page}
use Rattle.frames.specs.Building.{build_exactly}
use Rattle.frames.specs.Built.{built_right}
use Rattle.frames.proofs.Reading.{read_built}
use Rattle.frames.specs.Turned.{FrameFlags, turned, SomeTurned, NamedDamage}
use Rattle.frames.specs.Damage.{time_borne}
use Rattle.frames.proofs.Damage.{noticed_2, noticed_3}
use Rattle.sheets.specs.List.{NUMBERS}
use Rattle.sheets.specs.Sheet.{sheet_is, sheet_read, sheet_before, sheet_numbers}
use Rattle.sheets.specs.Write.{sheet_written, written_bytes, size_written}
use Rattle.sheets.specs.Writing.{write_unchanged}
use Rattle.sheets.proofs.Writing.{written_read}
use Rattle.exports.specs.Code.{HALF, code_of, Reports}
use Rattle.exports.specs.Calls.{lent_answer, numbers_left, toi_of, contents_given, build_call, build_call_frame, read_call, read_call_numbers, read_call_page, time_call, time_call_time, subframe2_call, subframe2_call_counts, subframe3_call, subframe3_call_page, sheet_call, sheet_call_numbers}
use Rattle.exports.specs.Told.{build_told, read_told, time_told, subframe2_told, subframe3_told, sheet_told, written_told}
use Rattle.exports.specs.Laws.Sheets.{written_answer, written_few}

-- ---- the stated lengths

as_stated : (lengths : Bool) (a : Answer) → lengths ≡ true → lent_answer lengths a ≡ a
as_stated lengths a e = ap (λ (t : Bool). lent_answer t a) e

-- With 34 numbers and 250 page bits lent, l1c_read answers what reading the frame does.
pub read_as : (f : List ℕ) (zs : List ℤ) (page : List ℕ) → length zs ≡ NUMBERS → length page ≡ PAGE_BITS
    → read_call f zs page ≡ answer_of (frame_read f)
read_as f zs page many long =
    as_stated (eqb (length zs) NUMBERS && eqb (length page) PAGE_BITS) (answer_of (frame_read f))
    (rw (eq-eqb (length zs) NUMBERS many, eq-eqb (length page) PAGE_BITS long) refl)

-- With two numbers lent, l1c_read_time answers what reading the time alone does.
pub time_as : (f time : List ℕ) → length time ≡ 2 → time_call f time ≡ answer_of (time_alone f)
time_as f time two = as_stated (eqb (length time) 2) (answer_of (time_alone f)) (eq-eqb (length time) 2 two)

-- With 33 counts lent, l1c_read_subframe2 answers what reading subframe 2 alone does.
pub subframe2_as : (f : List ℕ) (zs : List ℤ) → length zs ≡ COUNTS_2 → subframe2_call f zs ≡ answer_of (subframe2_alone f)
subframe2_as f zs many = as_stated (eqb (length zs) COUNTS_2) (answer_of (subframe2_alone f)) (eq-eqb (length zs) COUNTS_2 many)

-- With 250 page bits lent, l1c_read_subframe3 answers what reading subframe 3 alone does.
pub subframe3_as : (f page : List ℕ) → length page ≡ PAGE_BITS → subframe3_call f page ≡ answer_of (subframe3_alone f)
subframe3_as f page long = as_stated (eqb (length page) PAGE_BITS) (answer_of (subframe3_alone f)) (eq-eqb (length page) PAGE_BITS long)

-- With fewer than 2^32 bytes and 34 numbers lent, l1c_read_sheet answers what reading the sheet does.
pub sheet_as : (s : List ℕ) (zs : List ℤ) → length s < HALF → length zs ≡ NUMBERS → sheet_call s zs ≡ answer_of (sheet_read s)
sheet_as s zs short many =
    as_stated (ltb (length s) HALF && eqb (length zs) NUMBERS) (answer_of (sheet_read s))
    (rw (lt-ltb (length s) HALF short, eq-eqb (length zs) NUMBERS many) refl)

-- ---- a refusal

-- what was returned has a refusal's number
abbrev pub IsRefused : ℕ → Type 0
IsRefused code = code / HALF ≡ 0 → ⊥

refuses : (a : Answer) (said : ℕ) → Reports (code_of a said) a said → IsRefused (code_of a said) → Refuses a
refuses a said told h e = h (told.number ∙ e)

numbers_stay : (a : Answer) (new zs : List ℤ) → Refuses a → numbers_left a new zs ≡ zs
numbers_stay (Ok _) new zs h = absurd (h refl)
numbers_stay (Err r) new zs h = refl

-- Where l1c_build refuses, the frame is as it was.
pub build_stays : (zs : List ℤ) (page out : List ℕ) → IsRefused (code_of (build_call zs page out) 0) → build_call_frame zs page out ≡ out
build_stays zs page out h =
    refused_by_answer (build_call zs page out) (frame_of (contents_given zs page)) out
    (refuses (build_call zs page out) 0 (build_told zs page out) h)

-- Where l1c_read refuses, the numbers and the page are as they were.
pub read_stays : (f : List ℕ) (zs : List ℤ) (page : List ℕ) → IsRefused (code_of (read_call f zs page) (frame_corrected (frame_read f)))
    → (read_call_numbers f zs page ≡ zs) × (read_call_page f zs page ≡ page)
read_stays f zs page h =
    let r = refuses (read_call f zs page) (frame_corrected (frame_read f)) (read_told f zs page) h in (
      numbers_stay (read_call f zs page) (frame_numbers (frame_read f)) zs r,
      refused_by_answer (read_call f zs page) (frame_page (frame_read f)) page r,
    )

-- Where l1c_read_time refuses, the two numbers are as they were.
pub time_stays : (f time : List ℕ) → IsRefused (code_of (time_call f time) 0) → time_call_time f time ≡ time
time_stays f time h =
    refused_by_answer (time_call f time) (time_numbers (time_alone f)) time
    (refuses (time_call f time) 0 (time_told f time) h)

-- Where l1c_read_subframe2 refuses, the counts are as they were.
pub subframe2_stays : (f : List ℕ) (zs : List ℤ) → IsRefused (code_of (subframe2_call f zs) 0) → subframe2_call_counts f zs ≡ zs
subframe2_stays f zs h =
    numbers_stay (subframe2_call f zs) (list_given (subframe2_alone f)) zs (refuses (subframe2_call f zs) 0 (subframe2_told f zs) h)

-- Where l1c_read_subframe3 refuses, the page is as it was.
pub subframe3_stays : (f page : List ℕ) → IsRefused (code_of (subframe3_call f page) 0) → subframe3_call_page f page ≡ page
subframe3_stays f page h =
    refused_by_answer (subframe3_call f page) (list_given (subframe3_alone f)) page (refuses (subframe3_call f page) 0 (subframe3_told f page) h)

-- Where l1c_read_sheet refuses, the numbers are as they were.
pub sheet_stays : (s : List ℕ) (zs : List ℤ) → IsRefused (code_of (sheet_call s zs) (sheet_before (sheet_read s))) → sheet_call_numbers s zs ≡ zs
sheet_stays s zs h =
    numbers_stay (sheet_call s zs) (sheet_numbers (sheet_read s)) zs (refuses (sheet_call s zs) (sheet_before (sheet_read s)) (sheet_told s zs) h)

-- Where l1c_write_sheet refuses, the bytes are as they were.
pub written_stays : (zs : List ℤ) (out : List ℕ) → IsRefused (code_of (answer_of (sheet_written zs out)) (size_written (sheet_written zs out)))
    → written_bytes zs out ≡ out
written_stays zs out h =
    write_unchanged zs out
    (subst Refuses (written_answer zs out) (refuses (answer_of (sheet_written zs out)) (size_written (sheet_written zs out)) (written_told zs out) h))

-- ---- building

-- the time that a number is, where it is one from 0 to 399
toi_is : (z : ℤ) → toi_of z ≤ LAST_TOI → z ≡ pos (toi_of z)
toi_is (pos n) h = ap pos (omega arith)
toi_is (negsuc n) h = absurd (omega arith)

-- A number that is no time from 0 to 399 is refused 3, with lengths and page bits that are right.
pub no_time_refused : (zs : List ℤ) (page out : List ℕ) → length zs ≡ NUMBERS → length page ≡ PAGE_BITS → IsBits page → length out ≡ FRAME
    → ((n : ℕ) → n ≤ LAST_TOI → get_or zs 0 (pos 0) ≡ pos n → ⊥) → build_call zs page out ≡ refused_at TIME 0
no_time_refused zs page out numbers long bits room none =
    rw (
      eq-eqb (length zs) NUMBERS numbers,
      eq-eqb (length (drop 1 zs)) COUNTS_2 (omega (arith, length-drop 1 zs)),
      eq-eqb (length page) PAGE_BITS long,
      eq-eqb (length out) FRAME room,
      eq-eqb (first_not_bit page) (length page) (bits_none page bits),
      over (leb (toi_of z) LAST_TOI) refl,
    )
    refl
  where
    z : ℤ
    z = get_or zs 0 (pos 0)

    over : (t : Bool) → leb (toi_of z) LAST_TOI ≡ t → t ≡ false
    over true e = let h = leb-true (toi_of z) LAST_TOI e in absurd (none (toi_of z) h (toi_is z h))
    over false e = refl

-- the numbers are the time that the first is, and the others
numbers_back : (zs : List ℤ) → length zs ≡ NUMBERS → toi_of (get_or zs 0 (pos 0)) ≤ LAST_TOI → pos (toi_of (get_or zs 0 (pos 0))) ∷ drop 1 zs ≡ zs
numbers_back [] many h = absurd (omega arith)
numbers_back (z ∷ zs) many h = ap (λ (x : ℤ). x ∷ zs) (sym (toi_is z h))

-- what was built: good contents, their numbers, and their frame
module _ (zs : List ℤ) (page out : List ℕ) (e : build_call zs page out ≡ Done) where
  abbrev given : Contents
  given = contents_given zs page

  answers : (done_if (eqb (length zs) NUMBERS) LENGTH 0 ≡ Done) × (build_answer given out ≡ Done)
  answers = both_done (done_if (eqb (length zs) NUMBERS) LENGTH 0) (build_answer given out) e

  built_good : GoodContents given
  built_good = ((build_exactly given out).0 answers.1).0

  built_frame : build_call_frame zs page out ≡ frame_of given
  built_frame = ap (λ (a : Answer). left_by a (frame_of given) out) e

  built_numbers : pos given.toi ∷ given.counts ≡ zs
  built_numbers =
      numbers_back zs (eqb-true (length zs) NUMBERS (test_done (eqb (length zs) NUMBERS) LENGTH 0 answers.0)) built_good.time

-- Contents are built exactly if they are good and 1800 bytes are lent.
pub built_exactly : (c : Contents) (out : List ℕ)
    → (build_call (pos c.toi ∷ c.counts) c.page out ≡ Done) ↔ (GoodContents c × (length out ≡ FRAME))
built_exactly c out = (so, back)
  where
    zs : List ℤ
    zs = pos c.toi ∷ c.counts

    so : build_call zs c.page out ≡ Done → GoodContents c × (length out ≡ FRAME)
    so e =
        let d = (answers zs c.page out e).1 in
        let same : contents_given zs c.page ≡ c =
        ap (λ (t : ℕ). contents_of t c.counts c.page) (omega (arith, (built_good zs c.page out e).time)) in
        (build_exactly c out).0 (subst (λ (x : Contents). build_answer x out ≡ Done) same d)

    back : GoodContents c × (length out ≡ FRAME) → build_call zs c.page out ≡ Done
    back h =
        let d = (build_exactly c out).1 h in
        let same : c ≡ contents_given zs c.page =
        ap (λ (t : ℕ). contents_of t c.counts c.page) (omega (arith, h.0.time)) in
        let many : length c.counts ≡ COUNTS_2 =
        eqb-true (length c.counts) COUNTS_2
        ((and-eq-true_iff (eqb (length c.counts) COUNTS_2) (eqb (length c.page) PAGE_BITS && eqb (length out) FRAME)).0
        (judged_done (build_lengths c out) (eqb (first_not_bit c.page) (length c.page)) (first_not_bit c.page) (contents_answer c) d).0).0
        in
        as_stated (eqb (length zs) NUMBERS) (build_answer (contents_given zs c.page) out) (eq-eqb (length zs) NUMBERS (omega arith))
        ∙ subst (λ (x : Contents). build_answer x out ≡ Done) same d

-- Numbers that are built are those of good contents, and what l1c_build leaves is the frame of these by IS-GPS-800.
pub built_is_right : (zs : List ℤ) (page out : List ℕ) → build_call zs page out ≡ Done
    → GoodContents (contents_given zs page)
    × (pos (contents_given zs page).toi ∷ (contents_given zs page).counts ≡ zs)
    × IsFrame (contents_given zs page) (build_call_frame zs page out)
built_is_right zs page out e = (
  built_good zs page out e,
  built_numbers zs page out e,
  subst (IsFrame (contents_given zs page)) (sym (built_frame zs page out e)) (built_right (contents_given zs page) (built_good zs page out e)),
)

-- What l1c_build built, l1c_read reads into any memory of the right lengths: the same numbers, the same page, none corrected.
pub built_is_read : (zs others : List ℤ) (page bits out : List ℕ) → build_call zs page out ≡ Done → length others ≡ NUMBERS
    → length bits ≡ PAGE_BITS
    → (read_call (build_call_frame zs page out) others bits ≡ Done)
    × (frame_corrected (frame_read (build_call_frame zs page out)) ≡ 0)
    × (read_call_numbers (build_call_frame zs page out) others bits ≡ zs)
    × (read_call_page (build_call_frame zs page out) others bits ≡ page)
built_is_read zs others page bits out e many long =
    (read_done, ap frame_corrected found, numbers, ap (λ (a : Answer). left_by a (frame_page (frame_read f)) bits) read_done ∙ ap frame_page found)
  where
    f : List ℕ
    f = build_call_frame zs page out

    found : frame_read f ≡ Ok (frame_is (contents_given zs page) 0)
    found = ap frame_read (built_frame zs page out e) ∙ read_built (contents_given zs page) (built_good zs page out e)

    read_done : read_call f others bits ≡ Done
    read_done = read_as f others bits many long ∙ ap answer_of found

    numbers : read_call_numbers f others bits ≡ zs
    numbers =
        ap (λ (a : Answer). numbers_left a (frame_numbers (frame_read f)) others) read_done
        ∙ ap frame_numbers found ∙ built_numbers zs page out e

-- What l1c_write_sheet wrote, l1c_read_sheet reads into any 34 numbers: the same numbers, and nothing stands before the sheet.
pub written_is_read : (zs others : List ℤ) (out : List ℕ) → answer_of (sheet_written zs out) ≡ Done → length others ≡ NUMBERS
    → (sheet_call (take (size_written (sheet_written zs out)) (written_bytes zs out)) others ≡ Done)
    × (sheet_before (sheet_read (take (size_written (sheet_written zs out)) (written_bytes zs out))) ≡ 0)
    × (sheet_call_numbers (take (size_written (sheet_written zs out)) (written_bytes zs out)) others ≡ zs)
written_is_read zs others out e many = (
  read_done,
  ap sheet_before found,
  ap (λ (a : Answer). numbers_left a (sheet_numbers (sheet_read s)) others) read_done ∙ ap sheet_numbers found,
)
  where
    s : List ℕ
    s = take (size_written (sheet_written zs out)) (written_bytes zs out)

    found : sheet_read s ≡ sheet_is zs 0
    found = (written_read zs out (sym (written_answer zs out) ∙ e)).0

    short : length s < HALF
    short = omega (arith, length-take (size_written (sheet_written zs out)) (written_bytes zs out), written_few zs out e)

    read_done : sheet_call s others ≡ Done
    read_done = sheet_as s others short many ∙ ap answer_of found

-- ---- demand 3, of any frame that l1c_build built and any of its symbols turned

-- If at most nine of the first 52 turn, l1c_read_time hands back the time sent, and how many turned.
pub time_is_sent : (zs : List ℤ) (page out t time : List ℕ) → build_call zs page out ≡ Done → FrameFlags t → weight (time_in t) ≤ 9
    → length time ≡ 2
    → (time_call (turned (build_call_frame zs page out) t) time ≡ Done)
    × (time_call_time (turned (build_call_frame zs page out) t) time ≡ toi_of (get_or zs 0 (pos 0)) ∷ weight (time_in t) ∷ [])
time_is_sent zs page out t time e flags few two = (
  done,
  ap (λ (a : Answer). left_by a (time_numbers (time_alone f)) time) done
      ∙ ap time_numbers found,
)
  where
    f : List ℕ
    f = turned (build_call_frame zs page out) t

    found : time_alone f ≡ time_is (toi_of (get_or zs 0 (pos 0))) (weight (time_in t))
    found =
        ap (λ (x : List ℕ). time_alone (turned x t)) (built_frame zs page out e)
        ∙ time_borne (contents_given zs page) t (built_good zs page out e) flags few

    done : time_call f time ≡ Done
    done = time_as f time two ∙ ap answer_of found

lent_refuses : (lengths : Bool) (a : Answer) → Refuses a → Refuses (lent_answer lengths a)
lent_refuses true a h = h
lent_refuses false a h = λ e. omega arith

reported : (a : Answer) → Reports (code_of a 0) a 0 → Refuses a → IsRefused (code_of a 0)
reported a told h e = h (sym told.number ∙ e)

-- If any symbol of subframe 2 turns, and those of its data symbols as demand 3 names, l1c_read_subframe2 refuses.
pub noticed_by_2 : (zs counts : List ℤ) (page out t : List ℕ) → build_call zs page out ≡ Done → FrameFlags t → SomeTurned Two t
    → NamedDamage (data_in Two t) → IsRefused (code_of (subframe2_call (turned (build_call_frame zs page out) t) counts) 0)
noticed_by_2 zs counts page out t e flags some how =
    let f = turned (build_call_frame zs page out) t in
    reported (subframe2_call f counts) (subframe2_told f counts) (lent_refuses (eqb (length counts) COUNTS_2) (answer_of (subframe2_alone f))
    (subst (λ (x : List ℕ). Refuses (answer_of (subframe2_alone (turned x t)))) (sym (built_frame zs page out e))
    (noticed_2 (contents_given zs page) t (built_good zs page out e) flags some how)))

-- The same of subframe 3 and l1c_read_subframe3.
pub noticed_by_3 : (zs : List ℤ) (page bits out t : List ℕ) → build_call zs page out ≡ Done → FrameFlags t → SomeTurned Three t
    → NamedDamage (data_in Three t) → IsRefused (code_of (subframe3_call (turned (build_call_frame zs page out) t) bits) 0)
noticed_by_3 zs page bits out t e flags some how =
    let f = turned (build_call_frame zs page out) t in
    reported (subframe3_call f bits) (subframe3_told f bits) (lent_refuses (eqb (length bits) PAGE_BITS) (answer_of (subframe3_alone f))
    (subst (λ (x : List ℕ). Refuses (answer_of (subframe3_alone (turned x t)))) (sym (built_frame zs page out e))
    (noticed_3 (contents_given zs page) t (built_good zs page out e) flags some how)))
