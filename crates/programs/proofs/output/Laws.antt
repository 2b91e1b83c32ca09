-- A number or a sheet put behind what is there, and a refusal, part by part.
-- Assumes nothing.
use Rattle.std.specs.Prelude.{Result, Ok}
use mathlib.Core.Path.{◌≡◌}
use mathlib.Core.List.{List, [], ◌∷◌, ◌++◌}
use Prim.Native.Nat.{ℕ, ◌+◌, ◌≤◌, ◌<◌, ◌^◌}
use native.Mathlib.Omega.{arith}
use lib.IntN.{ℤ}
use lib.ListN.{length}
use Rattle.fields.specs.Counts.{AllInRange}
use Rattle.sheets.specs.Text.{LINE_END, bytes_in}
use Rattle.sheets.specs.List.{sheet_fields}
use Rattle.sheets.specs.Number.{decimal}
use Rattle.sheets.specs.Write.{text_written, text_bytes, sheet_text, sheet_written, written_bytes, size_written}
use Rattle.sheets.specs.Laws.Lengths.{decimal_short, lines_short, sheet_long}
use Rattle.words.specs.declared.refusal.Refusal.{Refusal}
use Rattle.programs.specs.Output.{OUTPUT_BYTES, refusal_text}
use Rattle.programs.specs.Laws.Output.{Puts, Adds, adds_on, part_from, with_part, text_fits, text_put, sheet_fits, sheet_put}
use Rattle.programs.specs.declared.output.Output.{Output}

-- the digits of a number of 64 bits are at most 20
pub digits_put : (number : ℕ) (o : Output) → number < 2 ^ 64 → length o.bytes ≡ OUTPUT_BYTES → o.size + 20 ≤ OUTPUT_BYTES
    → (written : Result ℕ Refusal) (part : List ℕ) → written ≡ text_written (decimal number) (part_from OUTPUT_BYTES o.size o.bytes)
    → part ≡ text_bytes (decimal number) (part_from OUTPUT_BYTES o.size o.bytes)
    → Puts o.bytes o.size (decimal number) (o.size + size_written written) (with_part OUTPUT_BYTES o.size o.bytes part)
    × (o.size + size_written written ≤ o.size + 20)
digits_put number o h long room written part w e =
    let few = decimal_short number h in
    let put = text_put (decimal number) o.bytes OUTPUT_BYTES o.size long (omega (arith, few)) written part w e in
    (put, omega (arith, put.0, few))

pub digits_fit : (number : ℕ) (o : Output) → number < 2 ^ 64 → length o.bytes ≡ OUTPUT_BYTES → o.size + 20 ≤ OUTPUT_BYTES
    → text_written (decimal number) (part_from OUTPUT_BYTES o.size o.bytes) ≡ Ok (length (decimal number))
digits_fit number o h long room = text_fits (decimal number) o.bytes OUTPUT_BYTES o.size long (omega (arith, decimal_short number h))

-- a sheet of good numbers has at most 800 bytes
sheet_most : (zs : List ℤ) → AllInRange sheet_fields zs → length (sheet_text zs) ≤ 800
sheet_most zs range = omega (arith, sheet_long zs, lines_short zs range)

pub good_sheet_fits : (zs : List ℤ) (o : Output) → AllInRange sheet_fields zs → length o.bytes ≡ OUTPUT_BYTES → o.size + 800 ≤ OUTPUT_BYTES
    → sheet_written zs (part_from OUTPUT_BYTES o.size o.bytes) ≡ Ok (length (sheet_text zs))
good_sheet_fits zs o range long room = sheet_fits zs o.bytes OUTPUT_BYTES o.size range long (omega (arith, sheet_most zs range))

pub good_sheet_put : (zs : List ℤ) (o : Output) → AllInRange sheet_fields zs → length o.bytes ≡ OUTPUT_BYTES → o.size + 800 ≤ OUTPUT_BYTES
    → (written : Result ℕ Refusal) (part : List ℕ) → written ≡ sheet_written zs (part_from OUTPUT_BYTES o.size o.bytes)
    → part ≡ written_bytes zs (part_from OUTPUT_BYTES o.size o.bytes)
    → Puts o.bytes o.size (sheet_text zs) (o.size + size_written written) (with_part OUTPUT_BYTES o.size o.bytes part)
    × (o.size + size_written written ≤ o.size + 800)
good_sheet_put zs o range long room written part w e =
    let few = sheet_most zs range in
    let put = sheet_put zs o.bytes OUTPUT_BYTES o.size range long (omega (arith, few)) written part w e in
    (put, omega (arith, put.0, few))

-- a refusal, each part behind the one before
pub refusal_added : (number place : ℕ) (o₀ o₁ o₂ o₃ o₄ o₅ : Output) → Adds o₀ (bytes_in "refused ") o₁ → Adds o₁ (decimal number) o₂
    → Adds o₂ (bytes_in " at ") o₃ → Adds o₃ (decimal place) o₄ → Adds o₄ (LINE_END ∷ []) o₅ → Adds o₀ (refusal_text number place) o₅
unfolding refusal_text
refusal_added number place o₀ o₁ o₂ o₃ o₄ o₅ a₁ a₂ a₃ a₄ a₅ =
    let end = decimal place ++ LINE_END ∷ [] in
    adds_on o₀ (bytes_in "refused ") (decimal number ++ (bytes_in " at " ++ end)) o₁ o₅ a₁
    (adds_on o₁ (decimal number) (bytes_in " at " ++ end) o₂ o₅ a₂
    (adds_on o₂ (bytes_in " at ") end o₃ o₅ a₃
    (adds_on o₃ (decimal place) (LINE_END ∷ []) o₄ o₅ a₄ a₅)))
