-- How many ones each row and column of A and T has, as Tables 6.2-14 to 6.2-17 of IS-GPS-800 list them.
-- Assumes nothing.
use Rattle.std.specs.Prelude.{cond, ◌&&◌, List, [], ◌∷◌, ℕ, eqb, leb}

-- an entry: "k, n ones" or "x through y, n ones in each"
pub data Total : Type 0 where
  of_one : ℕ → ℕ → Total
  of_each : ℕ → ℕ → ℕ → Total

-- the number of ones that is listed for row or column k, or that of the others, not identified in the table
unfoldable pub total_of : List Total → ℕ → ℕ → ℕ
total_of [] others k = others
total_of (of_one x n ∷ ts) others k = cond (eqb x k) n (total_of ts others k)
total_of (of_each x y n ∷ ts) others k = cond (leb x k && leb k y) n (total_of ts others k)

-- Table 6.2-14, rows of submatrix A of subframe 2; those not identified have six
unfoldable pub a2_rows : ℕ → ℕ
a2_rows = total_of
    (
    of_one 2 7 ∷ of_one 31 7 ∷ of_one 44 5 ∷ of_one 83 7 ∷ of_one 91 7 ∷ of_one 93 7 ∷ of_one 110 5 ∷ of_one 119 5 ∷ of_one 123 7 ∷ of_one 134 7 ∷
    of_one 154 7 ∷ of_one 155 5 ∷ of_one 162 5 ∷ of_one 165 7 ∷ of_one 178 5 ∷ of_one 205 5 ∷ of_one 208 5 ∷ of_one 225 7 ∷ of_one 229 5 ∷
    of_one 232 5 ∷ of_one 234 7 ∷ of_one 244 5 ∷ of_one 263 5 ∷ of_one 269 4 ∷ of_one 289 5 ∷ of_one 299 7 ∷ of_one 304 5 ∷ of_one 305 7 ∷
    of_one 335 5 ∷ of_one 346 5 ∷ of_one 361 5 ∷ of_one 382 7 ∷ of_one 392 5 ∷ of_one 415 5 ∷ of_one 423 5 ∷ of_one 424 7 ∷ of_one 442 7 ∷
    of_one 446 5 ∷ of_one 472 5 ∷ of_one 478 5 ∷ of_one 484 5 ∷ of_one 487 5 ∷ of_one 498 5 ∷ of_one 505 7 ∷ of_one 510 5 ∷ of_one 512 5 ∷
    of_one 515 5 ∷ of_one 532 5 ∷ of_one 537 7 ∷ of_one 542 5 ∷ of_one 545 5 ∷ of_one 572 5 ∷ of_one 577 5 ∷ of_one 581 5 ∷ of_one 594 5 ∷
    of_one 597 5 ∷ []) 6

-- and its columns; all are identified
unfoldable pub a2_columns : ℕ → ℕ
a2_columns = total_of
    (
    of_each 1 73 3 ∷ of_one 74 2 ∷ of_each 75 310 3 ∷ of_each 311 321 4 ∷ of_one 322 3 ∷ of_each 323 352 4 ∷ of_each 353 401 5 ∷
    of_one 402 4 ∷ of_each 403 467 5 ∷ of_each 468 478 7 ∷ of_each 479 480 14 ∷ of_each 481 484 15 ∷ of_one 485 14 ∷
    of_each 486 526 15 ∷ of_one 527 14 ∷ of_each 528 600 15 ∷ []) 0

-- Table 6.2-15, rows of submatrix T of subframe 2; those not identified have two
unfoldable pub t2_rows : ℕ → ℕ
t2_rows = total_of
    (
    of_one 1 1 ∷ of_one 119 3 ∷ of_one 162 3 ∷ of_one 208 3 ∷ of_one 232 3 ∷ of_one 244 3 ∷ of_one 269 3 ∷ of_one 289 3 ∷ of_one 304 3 ∷
    of_one 346 3 ∷ of_one 361 3 ∷ of_one 392 3 ∷ of_one 415 3 ∷ of_one 446 3 ∷ of_one 472 3 ∷ of_one 478 3 ∷ of_one 484 3 ∷ of_one 487 3 ∷
    of_one 498 3 ∷ of_one 512 3 ∷ of_one 515 3 ∷ of_one 542 3 ∷ of_one 545 3 ∷ of_one 572 3 ∷ of_one 577 3 ∷ of_one 581 3 ∷ of_one 594 3 ∷ []) 2

-- and its columns; those not identified have two
unfoldable pub t2_columns : ℕ → ℕ
t2_columns = total_of
    (
    of_one 2 3 ∷ of_one 6 3 ∷ of_one 26 3 ∷ of_one 32 3 ∷ of_one 34 3 ∷ of_one 50 3 ∷ of_one 52 3 ∷ of_one 54 3 ∷ of_one 76 3 ∷ of_one 98 3 ∷
    of_one 146 3 ∷ of_one 148 3 ∷ of_one 162 3 ∷ of_one 172 3 ∷ of_one 176 3 ∷ of_one 208 3 ∷ of_one 210 3 ∷ of_one 304 3 ∷ of_one 314 3 ∷
    of_one 318 3 ∷ of_one 322 3 ∷ of_one 330 3 ∷ of_one 364 3 ∷ of_one 384 3 ∷ of_one 446 3 ∷ of_one 472 3 ∷ of_one 512 3 ∷ of_one 598 1 ∷
    of_one 599 1 ∷ []) 2

-- Table 6.2-16, rows of submatrix A of subframe 3; those not identified have five
unfoldable pub a3_rows : ℕ → ℕ
a3_rows = total_of
    (
    of_one 1 6 ∷ of_one 3 4 ∷ of_one 5 6 ∷ of_one 8 6 ∷ of_one 9 6 ∷ of_one 10 6 ∷ of_one 14 6 ∷ of_one 15 6 ∷ of_one 17 7 ∷ of_one 18 6 ∷
    of_one 21 6 ∷ of_one 22 6 ∷ of_one 23 6 ∷ of_one 26 6 ∷ of_one 27 6 ∷ of_one 28 6 ∷ of_one 30 6 ∷ of_one 34 6 ∷ of_one 36 6 ∷ of_one 38 6 ∷
    of_one 39 6 ∷ of_one 40 6 ∷ of_one 41 6 ∷ of_one 45 6 ∷ of_one 46 6 ∷ of_one 48 6 ∷ of_one 50 6 ∷ of_one 51 6 ∷ of_one 54 6 ∷ of_one 58 6 ∷
    of_one 59 6 ∷ of_one 60 6 ∷ of_one 61 6 ∷ of_one 63 6 ∷ of_one 65 6 ∷ of_one 68 6 ∷ of_one 69 6 ∷ of_one 70 6 ∷ of_one 71 4 ∷ of_one 72 6 ∷
    of_one 74 6 ∷ of_one 78 6 ∷ of_one 79 6 ∷ of_one 80 6 ∷ of_one 82 6 ∷ of_one 83 6 ∷ of_one 86 6 ∷ of_one 88 6 ∷ of_one 89 6 ∷ of_one 90 6 ∷
    of_one 91 6 ∷ of_one 92 4 ∷ of_one 94 6 ∷ of_one 96 6 ∷ of_one 98 6 ∷ of_one 99 6 ∷ of_one 103 6 ∷ of_one 105 6 ∷ of_one 107 6 ∷ of_one 111 6 ∷
    of_one 112 6 ∷ of_one 113 6 ∷ of_one 115 6 ∷ of_one 118 6 ∷ of_one 121 6 ∷ of_one 129 6 ∷ of_one 133 6 ∷ of_one 136 6 ∷ of_one 138 6 ∷
    of_one 142 6 ∷ of_one 144 6 ∷ of_one 147 6 ∷ of_one 148 6 ∷ of_one 149 6 ∷ of_one 150 6 ∷ of_one 151 6 ∷ of_one 152 6 ∷ of_one 155 4 ∷
    of_one 156 6 ∷ of_one 159 6 ∷ of_one 167 6 ∷ of_one 168 6 ∷ of_one 170 6 ∷ of_one 171 6 ∷ of_one 172 6 ∷ of_one 173 6 ∷ of_one 174 6 ∷
    of_one 175 6 ∷ of_one 177 6 ∷ of_one 178 6 ∷ of_one 180 6 ∷ of_one 181 6 ∷ of_one 182 6 ∷ of_one 185 6 ∷ of_one 190 6 ∷ of_one 192 6 ∷
    of_one 193 6 ∷ of_one 195 4 ∷ of_one 196 4 ∷ of_one 197 6 ∷ of_one 198 6 ∷ of_one 200 6 ∷ of_one 201 6 ∷ of_one 202 6 ∷ of_one 203 6 ∷
    of_one 205 6 ∷ of_one 207 6 ∷ of_one 209 6 ∷ of_one 211 6 ∷ of_one 214 6 ∷ of_one 215 6 ∷ of_one 217 4 ∷ of_one 218 6 ∷ of_one 219 6 ∷
    of_one 220 6 ∷ of_one 223 6 ∷ of_one 227 6 ∷ of_one 228 6 ∷ of_one 229 4 ∷ of_one 231 7 ∷ of_one 235 4 ∷ of_one 236 6 ∷ of_one 237 4 ∷
    of_one 239 6 ∷ of_one 240 6 ∷ of_one 244 6 ∷ of_one 247 4 ∷ of_one 248 6 ∷ of_one 249 6 ∷ of_one 250 6 ∷ of_one 251 6 ∷ of_one 253 4 ∷
    of_one 254 6 ∷ of_one 255 6 ∷ of_one 257 4 ∷ of_one 258 6 ∷ of_one 259 6 ∷ of_one 261 6 ∷ of_one 263 6 ∷ of_one 265 6 ∷ of_one 266 4 ∷
    of_one 269 6 ∷ of_one 271 6 ∷ of_one 273 6 ∷ []) 5

-- and its columns; all are identified
unfoldable pub a3_columns : ℕ → ℕ
a3_columns = total_of
    (
    of_each 1 22 3 ∷ of_one 23 2 ∷ of_each 24 85 3 ∷ of_one 86 2 ∷ of_each 87 177 3 ∷ of_each 178 193 4 ∷ of_each 194 226 11 ∷
    of_one 227 10 ∷ of_each 228 274 11 ∷ []) 0

-- Table 6.2-17, rows of submatrix T of subframe 3; those not identified have two
unfoldable pub t3_rows : ℕ → ℕ
t3_rows = total_of
    (
    of_one 1 1 ∷ of_one 17 1 ∷ of_one 62 3 ∷ of_one 73 3 ∷ of_one 92 3 ∷ of_one 100 3 ∷ of_one 125 3 ∷ of_one 130 3 ∷ of_one 153 3 ∷ of_one 154 3 ∷
    of_one 160 3 ∷ of_one 166 3 ∷ of_one 186 3 ∷ of_one 196 3 ∷ of_one 208 3 ∷ of_one 217 3 ∷ of_one 221 3 ∷ of_one 226 3 ∷ of_one 229 3 ∷
    of_one 231 1 ∷ of_one 232 3 ∷ of_one 235 3 ∷ of_one 237 3 ∷ of_one 242 3 ∷ of_one 247 3 ∷ of_one 253 3 ∷ of_one 256 3 ∷ of_one 257 3 ∷
    of_one 262 3 ∷ of_one 266 3 ∷ of_one 270 3 ∷ []) 2

-- and its columns; those not identified have two
unfoldable pub t3_columns : ℕ → ℕ
t3_columns = total_of
    (
    of_one 2 3 ∷ of_one 8 3 ∷ of_one 16 3 ∷ of_one 22 3 ∷ of_one 32 3 ∷ of_one 34 3 ∷ of_one 36 3 ∷ of_one 42 3 ∷ of_one 50 3 ∷ of_one 62 3 ∷
    of_one 68 3 ∷ of_one 76 3 ∷ of_one 78 3 ∷ of_one 92 3 ∷ of_one 100 3 ∷ of_one 102 3 ∷ of_one 104 3 ∷ of_one 116 3 ∷ of_one 130 3 ∷ of_one 134 3 ∷
    of_one 144 3 ∷ of_one 186 3 ∷ of_one 188 3 ∷ of_one 196 3 ∷ of_one 202 3 ∷ of_one 226 3 ∷ of_one 232 3 ∷ of_one 271 1 ∷ of_one 273 1 ∷ []) 2
