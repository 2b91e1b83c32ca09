-- The known results that document 01 marks P, row by row, and that what the definitions give computes to what is expected.
-- Assumes nothing.
use Rattle.std.specs.Prelude.{◌≡◌, ℕ, List, [], ◌∷◌, ◌++◌, map, replicate, negsuc, slice_index_or, refl}
use Rattle.words.specs.Bits.{first_not_bit, value_of, bits_of, signed_of}
use Rattle.words.specs.Crc.{reduced, fed, check_of}
use Rattle.words.specs.Time.{shifted_out, time_word, nearest_time, time_read}
use Rattle.fields.specs.Table.{subframe2_rows, fields_in}
use Rattle.fields.specs.Counts.{counts_in, bits_of_counts, first_out}
use Rattle.fields.specs.Subframe2.{BITS_2, fields2}
use Rattle.sheets.specs.Text.{LINE_END, bytes_in, same_bytes, parts_ended, after_last}
use Rattle.sheets.specs.List.{sheet_rows, sheet_names, position_in}
use Rattle.sheets.specs.Number.{all_digits, decimal_from}
use Rattle.sheets.specs.Trailer.{is_trailer, trailer_count, has_trailer, start_of, lines_bytes}
use Rattle.sheets.specs.Lines.{is_given, given_in, first_missing, missing_answer, lines_answer, body_answer}
use Rattle.sheets.specs.Sheet.{sheet_read}
use Rattle.known.specs.Rows.{KnownResult, known_case, numbers, taken_with, refused_with, word_of, nine_turned, read_as_time, zero_but_bit, check_bits, leaves, judged_count, read_count, delay, sheet_in}

-- document 01's words; what the definitions give; what document 01 expects (negsuc n is -(n + 1))
unfoldable pub known_results : List KnownResult
known_results =
    known_case "TOI 0 gives 52 zeros" (word_of 0) (taken_with (replicate 52 0))
    ∷ known_case "TOI 256 gives 52 ones" (word_of 256) (taken_with (replicate 52 1))
    ∷ known_case "the first nine symbols of TOI 0's word turned read as 0 with 9" (read_as_time (nine_turned (time_word 0))) (taken_with (0 ∷ 9 ∷ []))
    ∷ known_case "all 52 zeros read as 0 with 0" (read_as_time (replicate 52 0)) (taken_with (0 ∷ 0 ∷ []))
    ∷ known_case "data bits 1 to 576 zero but bit 576: check bits 864CFB hex" (check_bits (zero_but_bit 576)) (numbers (0x864CFB ∷ []))
    ∷ known_case "data bits 1 to 576 zero but bit 575: 8AD50D" (check_bits (zero_but_bit 575)) (numbers (0x8AD50D ∷ []))
    ∷ known_case "data bits 1 to 576 all zero: 000000" (check_bits (replicate BITS_2 0)) (numbers (0x000000 ∷ []))
    ∷ known_case "order: 0 to 0" (leaves 0) (taken_with (0 ∷ []))
    ∷ known_case "order: 1 to 38" (leaves 1) (taken_with (38 ∷ []))
    ∷ known_case "order: 45 to 1710" (leaves 45) (taken_with (1710 ∷ []))
    ∷ known_case "order: 46 to 1" (leaves 46) (taken_with (1 ∷ []))
    ∷ known_case "order: 1199 to 140" (leaves 1199) (taken_with (140 ∷ []))
    ∷ known_case "order: 1200 to 178" (leaves 1200) (taken_with (178 ∷ []))
    ∷ known_case "order: 1747 to 1747" (leaves 1747) (taken_with (1747 ∷ []))
    ∷ known_case "itow 83 taken" (judged_count "itow" 83) (taken_with [])
    ∷ known_case "itow 83 taken, read from its bits" (read_count "itow" 83) (taken_with (83 ∷ []))
    ∷ known_case "itow 84 refused 6 at 14" (judged_count "itow" 84) (refused_with 6 14)
    ∷ known_case "itow 84 refused 6 at 14, read from its bits" (read_count "itow" 84) (refused_with 6 14)
    ∷ known_case "toe 2015 taken" (judged_count "toe" 2015) (taken_with [])
    ∷ known_case "toe 2015 taken, read from its bits" (read_count "toe" 2015) (taken_with (2015 ∷ []))
    ∷ known_case "toe 2016 refused 6 at 39" (judged_count "toe" 2016) (refused_with 6 39)
    ∷ known_case "toe 2016 refused 6 at 39, read from its bits" (read_count "toe" 2016) (refused_with 6 39)
    ∷ known_case "tgd -4096 not available" (delay (negsuc 4095)) []
    ∷ known_case "tgd -4095 a value" (delay (negsuc 4094)) (negsuc 4094 ∷ [])
    ∷ known_case "an empty buffer as a sheet: 10" (sheet_in []) (refused_with 10 0)
    ∷ known_case "`back 00000` and byte 10 alone: 15 at 1" (sheet_in (bytes_in "back 00000" ++ LINE_END ∷ [])) (refused_with 15 1)
    ∷ []

-- the row k, from 0
abbrev pub case_at : ℕ → KnownResult
case_at k = slice_index_or known_results k (known_case "" [] [])

-- What the definitions give, row by row, computes to what document 01 expects.
pub computed : map (λ (r : KnownResult). r.given) known_results ≡ map (λ (r : KnownResult). r.expected) known_results
unfolding known_results first_not_bit value_of bits_of signed_of reduced fed check_of shifted_out time_word nearest_time time_read
    subframe2_rows fields_in counts_in bits_of_counts first_out fields2
    same_bytes parts_ended after_last sheet_rows sheet_names position_in all_digits decimal_from is_trailer trailer_count has_trailer start_of lines_bytes
    is_given given_in first_missing missing_answer lines_answer body_answer sheet_read
computed = refl
