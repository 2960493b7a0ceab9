-- The paper's numbers: limits, the sizes of records, and the numbers of the ways in which a job is turned back.
-- Assumes nothing.
use Rattle.std.specs.Prelude.{ℕ}

-- "At most 64" variables
abbrev pub max_variables : ℕ
max_variables = 64

-- "1 to 512 nodes", and as many places
abbrev pub max_nodes : ℕ
max_nodes = 512

-- "At most 1,024" script records
abbrev pub max_records : ℕ
max_records = 1024

-- a "17th nested block" is one too many
abbrev pub max_depth : ℕ
max_depth = 16

-- "budget not 1 to 1,000,000" is refused
abbrev pub max_budget : ℕ
max_budget = 1000000

-- "under 8 or over 23,048 bytes" is refused
abbrev pub max_bytes : ℕ
max_bytes = 23048

-- "then an 8-byte trailer"
abbrev pub trailer_size : ℕ
trailer_size = 8

-- "Variable, 8 bytes"
abbrev pub variable_size : ℕ
variable_size = 8

-- "Node, 12 bytes"
abbrev pub node_size : ℕ
node_size = 12

-- "Script record, 16 bytes"
abbrev pub record_size : ℕ
record_size = 16

-- "65535 for record 0, the root"
abbrev pub no_parent : ℕ
no_parent = 65535

-- "One fixed table of seventeen rows", and three more: the if that comes back, left sibling and last child
abbrev pub command_count : ℕ
command_count = 20

-- 1: the number of bytes
abbrev pub bad_length : ℕ
bad_length = 1

-- 2: the offsets, or a part record
abbrev pub bad_offsets : ℕ
bad_offsets = 2

-- 3: a count out of range
abbrev pub bad_count : ℕ
bad_count = 3

-- 4: a variable's level
abbrev pub bad_variable : ℕ
bad_variable = 4

-- 5: a node's parent
abbrev pub bad_parent : ℕ
bad_parent = 5

-- 6: a node's levels
abbrev pub bad_node : ℕ
bad_node = 6

-- 7: a script record's fields
abbrev pub bad_record : ℕ
bad_record = 7

-- 8: the nesting of blocks
abbrev pub bad_block : ℕ
bad_block = 8

-- 9: the budget
abbrev pub bad_budget : ℕ
bad_budget = 9

-- 10: the lent buffers
abbrev pub bad_buffers : ℕ
bad_buffers = 10

-- 11: a bare section, or a lent tree and variables
abbrev pub bad_follow_on : ℕ
bad_follow_on = 11

-- 12: a spare byte
abbrev pub bad_spare : ℕ
bad_spare = 12

-- 13: the order of the nodes
abbrev pub bad_order : ℕ
bad_order = 13

-- 14: the output area
abbrev pub bad_area : ℕ
bad_area = 14

-- 15: no place for a newcomer
abbrev pub no_place : ℕ
no_place = 15

-- "Up to eight runs" take turns
abbrev pub max_runs : ℕ
max_runs = 8

-- "each of 5,000 steps"
abbrev pub turn_steps : ℕ
turn_steps = 5000
