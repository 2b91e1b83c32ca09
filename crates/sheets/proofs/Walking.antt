-- THEOREMS: the walk. It gives every sheet of a file, from the last to the first.
-- Assumes nothing.
use Rattle.std.specs.Prelude.{◌≡◌, List, [], ◌∷◌, ◌++◌, map, ℕ, ◌<◌, ℤ, length}
use Rattle.std.proofs.Common.{sym, ap, ◌∙◌, subst, append_assoc, append-nil, arith, length-append, Some}
use Rattle.std.proofs.Math.Seq.{take-append_seam}
use Rattle.sheets.specs.Text.{LINE_END, ended_by}
use Rattle.sheets.specs.Trailer.{trailer_text}
use Rattle.sheets.specs.Sheet.{IsSheet, sheet_read}
use Rattle.sheets.specs.Write.{sheet_text}
use Rattle.sheets.specs.Walk.{step_at, sheet_step, WalkGives, no_step, one_step, file_of, AreSheets, AllGood}
use Rattle.sheets.specs.Writing.{written_right}
use Rattle.sheets.proofs.Laws.Reading.{is_read}
use Rattle.sheets.specs.Laws.Trailer.{trailer_long}
use Rattle.sheets.specs.Walking.{walk_reads}

sheet_some : (zs : List ℤ) (sheet : List ℕ) → IsSheet zs sheet → 0 < length sheet
sheet_some zs sheet is =
    omega (arith, ap (λ (l : List ℕ). length l) is.text, length-append (ended_by LINE_END is.lines) (trailer_text (length (ended_by LINE_END is.lines))), trailer_long (length (ended_by LINE_END is.lines)))

-- a sheet, with anything before and behind it
sheet_step_lem : (front sheet behind : List ℕ) (zs : List ℤ) → IsSheet zs sheet
    → step_at ((front ++ sheet) ++ behind) (length (front ++ sheet)) ≡ sheet_step zs (length front)
sheet_step_lem front sheet behind zs is =
    let long = length-append (front ++ sheet) behind in
    walk_reads ((front ++ sheet) ++ behind) (length (front ++ sheet)) (omega (arith, length-append front sheet, sheet_some zs sheet is)) (omega arith)
    ∙ ap (λ (l : List ℕ). Some (sheet_read l)) (take-append_seam (front ++ sheet) behind)
    ∙ ap Some (is_read zs sheet is front)

walk_behind : (front behind : List ℕ) (all : List (List ℤ)) (sheets : List (List ℕ)) → AreSheets all sheets
    → WalkGives (file_of front sheets ++ behind) (length (file_of front sheets)) all (length front)
unfolding AreSheets file_of
walk_behind front behind [] [] are = no_step (length front)
walk_behind front behind [] (sheet ∷ sheets) are = absurd are
walk_behind front behind (zs ∷ others) [] are = absurd are
walk_behind front behind (zs ∷ others) (sheet ∷ sheets) are =
    let earlier = file_of front sheets in
    one_step (length (earlier ++ sheet)) (length earlier) (length front) zs others (sheet_step_lem earlier sheet behind zs are.0)
    (subst (λ (s : List ℕ). WalkGives s (length earlier) others (length front)) (sym (append_assoc earlier sheet behind))
    (walk_behind front (sheet ++ behind) others sheets are.1))

written_sheets : (all : List (List ℤ)) → AllGood all → AreSheets all (map sheet_text all)
unfolding AreSheets AllGood
written_sheets [] good = tt
written_sheets (zs ∷ others) good = (written_right zs good.0, written_sheets others good.1)

-- A file of any sheets behind any bytes, walked from its end, gives the numbers of every sheet, from the last to the first, and comes to the
-- first sheet's first byte.
pub walk_all : (front : List ℕ) (all : List (List ℤ)) (sheets : List (List ℕ)) → AreSheets all sheets
    → WalkGives (file_of front sheets) (length (file_of front sheets)) all (length front)
walk_all front all sheets are =
    subst (λ (s : List ℕ). WalkGives s (length (file_of front sheets)) all (length front)) (append-nil (file_of front sheets)) (walk_behind front [] all sheets are)

-- So it is for any good numbers, written one after another.
pub walk_written : (front : List ℕ) (all : List (List ℤ)) → AllGood all
    → WalkGives (file_of front (map sheet_text all)) (length (file_of front (map sheet_text all))) all (length front)
walk_written front all good = walk_all front all (map sheet_text all) (written_sheets all good)
