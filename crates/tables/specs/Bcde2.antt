-- Submatrices B, C, D and E of subframe 2, as IS-GPS-800 prints them: row, column, row, column.
-- Assumes nothing.
use Rattle.std.specs.Prelude.{List, [], ◌∷◌}
use Rattle.tables.specs.Coordinates.{Coordinate, coordinates}

-- submatrix B of subframe 2: Table 6.2-3
abbrev pub b2 : List Coordinate
b2 = coordinates (1 ∷ 1 ∷ 44 ∷ 1 ∷ 110 ∷ 1 ∷ 155 ∷ 1 ∷ 178 ∷ 1 ∷ 205 ∷ 1 ∷ 229 ∷ 1 ∷ 263 ∷ 1 ∷ 269 ∷ 1 ∷ 335 ∷ 1 ∷ 423 ∷ 1 ∷ 510 ∷ 1 ∷
    532 ∷ 1 ∷ 597 ∷ 1 ∷ [])

-- submatrix C of subframe 2: Table 6.2-4
abbrev pub c2 : List Coordinate
c2 = coordinates (1 ∷ 74 ∷ 1 ∷ 322 ∷ 1 ∷ 402 ∷ 1 ∷ 485 ∷ 1 ∷ 527 ∷ [])

-- submatrix D of subframe 2: Table 6.2-5
abbrev pub d2 : List Coordinate
d2 = coordinates (1 ∷ 1 ∷ [])

-- submatrix E of subframe 2: Table 6.2-6
abbrev pub e2 : List Coordinate
e2 = coordinates (1 ∷ 598 ∷ 1 ∷ 599 ∷ [])
