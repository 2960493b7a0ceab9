-- Board lines in a byte area: 4 little-endian bytes each and the reader set; "spare bytes at the end are untouched". Assumes nothing.
use Rattle.std.specs.Prelude.{ℕ, zero, suc, ◌+◌, ◌*◌, ◌/◌, ◌%◌, cond, List, [], ◌∷◌, ◌++◌, length, take, drop}
use Rattle.rules.specs.Level.{Level, visible}
use Rattle.rules.specs.Number.{bits}
use Rattle.rules.specs.Bytes.{byte}
use Rattle.rules.specs.Run.{Line}

-- the four little-endian bytes of a 32-bit number: the rules' `full` reads it back
unfoldable pub four_bytes : ℕ → List ℕ
four_bytes w = w % 256 ∷ w / 256 % 256 ∷ w / 65536 % 256 ∷ w / 16777216 % 256 ∷ []

-- a line: "the portal's lines take 5 bytes, the set last"
unfoldable pub line_bytes : Line → List ℕ
line_bytes l = four_bytes (bits l.number) ++ (l.readers ∷ [])

-- the bytes of lines, in order
unfoldable pub spell : List Line → List ℕ
spell [] = []
spell (l ∷ ls) = line_bytes l ++ spell ls

-- how many lines an area has room for
abbrev pub capacity : List ℕ → ℕ
capacity area = length area / 5

-- an area with lines at its beginning; the bytes behind them are its own
unfoldable pub written : List Line → List ℕ → List ℕ
written ls area = spell ls ++ drop (5 * length ls) area

-- an area with its line n replaced
unfoldable pub replaced : List ℕ → ℕ → Line → List ℕ
replaced area n l = take (5 * n) area ++ line_bytes l ++ drop (5 * n + 5) area

-- of n lines in an area, the bytes of those whose set lies within the reader's
unfoldable pub seen_board : Level → ℕ → List ℕ → List ℕ
seen_board o zero area = []
seen_board o (suc n) area = cond (visible o (byte area 4)) (take 5 area ++ seen_board o n (drop 5 area)) (seen_board o n (drop 5 area))
