-- Submatrices B, C, D and E of subframe 3, as IS-GPS-800 prints them: row, column, row, column.
-- Assumes nothing.
use Rattle.std.specs.Prelude.{List, [], ◌∷◌}
use Rattle.tables.specs.Coordinates.{Coordinate, coordinates}

-- submatrix B of subframe 3: Table 6.2-9
abbrev pub b3 : List Coordinate
b3 = coordinates (3 ∷ 1 ∷ 20 ∷ 1 ∷ 71 ∷ 1 ∷ 76 ∷ 1 ∷ 124 ∷ 1 ∷ 137 ∷ 1 ∷ 155 ∷ 1 ∷ 195 ∷ 1 ∷ 222 ∷ 1 ∷ 253 ∷ 1 ∷ [])

-- submatrix C of subframe 3: Table 6.2-10
abbrev pub c3 : List Coordinate
c3 = coordinates (1 ∷ 23 ∷ 1 ∷ 86 ∷ 1 ∷ 177 ∷ 1 ∷ 227 ∷ [])

-- submatrix D of subframe 3: Table 6.2-11
abbrev pub d3 : List Coordinate
d3 = coordinates (1 ∷ 1 ∷ [])

-- submatrix E of subframe 3: Table 6.2-12
abbrev pub e3 : List Coordinate
e3 = coordinates (1 ∷ 271 ∷ 1 ∷ 273 ∷ [])
