-- The job's bytes: little-endian numbers, the trailer's offsets, and where the records of the three sections stand. Assumes nothing.
use Rattle.std.specs.Prelude.{ℕ, ◌+◌, ◌-◌, ◌*◌, ◌/◌, ◌%◌, List, [], ◌∷◌, length, get_or}
use Rattle.rules.specs.Limits.{trailer_size, variable_size, node_size, record_size}

-- the byte at a place
abbrev pub byte : List ℕ → ℕ → ℕ
byte b at = get_or b at 0

-- "Numbers are little-endian": the 16-bit number at a place
unfoldable pub half : List ℕ → ℕ → ℕ
half b at = byte b at + byte b (at + 1) * 256

-- the two bytes of a 16-bit number
unfoldable pub two : ℕ → List ℕ
two n = n % 256 ∷ n / 256 % 256 ∷ []

-- the 32-bit number at a place
unfoldable pub full : List ℕ → ℕ → ℕ
full b at = byte b at + byte b (at + 1) * 256 + byte b (at + 2) * 65536 + byte b (at + 3) * 16777216

-- "four 16-bit offsets of variables, nodes, script and the trailer itself"
unfoldable pub variables_at : List ℕ → ℕ
variables_at b = half b (length b - trailer_size)

-- the second offset
unfoldable pub nodes_at : List ℕ → ℕ
nodes_at b = half b (length b - trailer_size + 2)

-- the third offset
unfoldable pub script_at : List ℕ → ℕ
script_at b = half b (length b - trailer_size + 4)

-- the fourth offset
unfoldable pub trailer_at : List ℕ → ℕ
trailer_at b = half b (length b - trailer_size + 6)

-- how many variables the first section holds
unfoldable pub variable_count : List ℕ → ℕ
variable_count b = nodes_at b / variable_size

-- how many nodes the second section holds
unfoldable pub node_count : List ℕ → ℕ
node_count b = (script_at b - nodes_at b) / node_size

-- how many records the third section holds
unfoldable pub record_count : List ℕ → ℕ
record_count b = (trailer_at b - script_at b) / record_size

-- where variable i stands
abbrev pub variable_place : ℕ → ℕ
variable_place i = variable_size * i

-- where node i stands in a section that starts at base
abbrev pub node_place : ℕ → ℕ → ℕ
node_place base i = base + node_size * i

-- where record i stands in a section that starts at base
abbrev pub record_place : ℕ → ℕ → ℕ
record_place base i = base + record_size * i
