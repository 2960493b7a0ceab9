-- What answers say: of a run its four numbers, lines, variables and tree; of a table its records; of bytes their digits. Assumes nothing.
use Rattle.std.specs.Prelude.{true, false, cond, List, [], ◌∷◌, ◌++◌, ◌≡◌, ℕ, suc, ◌+◌, ◌-◌, ◌/◌, ◌%◌, min, ltb, ℤ, pos, length, get_or}
use Rattle.rules.specs.Number.{bits}
use Rattle.rules.specs.Outcome.{Answer}
use Rattle.rules.specs.Tree.{Label, Forest, nil, tree, Place}
use Rattle.table.specs.Cells.{cells}
use Rattle.table.specs.Holds.{Holds}
use Rattle.lent.specs.declared.node.Node.{Node}
use Rattle.lent.specs.Lent.{node_of}
use Rattle.monitor.specs.declared.entry.Outcome.{Outcome}
use Rattle.monitor.specs.Promises.{answer_of}
use Rattle.print.specs.Answers.{ran}
use Rattle.print.specs.Waiting.{Output}
use Rattle.frames.specs.Pieces.{Piece, text, item, row, board, Writes, first}

-- "ending 0 index 0 steps 0 lines 0", and a line's end
unfoldable pub answer_line : ℕ → ℕ → ℕ → ℕ → List Piece
answer_line ending index steps lines =
    item (101 ∷ 110 ∷ 100 ∷ 105 ∷ 110 ∷ 103 ∷ 32 ∷ []) ending ∷ item (32 ∷ 105 ∷ 110 ∷ 100 ∷ 101 ∷ 120 ∷ 32 ∷ []) index
    ∷ item (32 ∷ 115 ∷ 116 ∷ 101 ∷ 112 ∷ 115 ∷ 32 ∷ []) steps ∷ item (32 ∷ 108 ∷ 105 ∷ 110 ∷ 101 ∷ 115 ∷ 32 ∷ []) lines ∷ text (10 ∷ []) ∷ []

-- the same of an answer of the rules
abbrev pub answer_on : Answer → List Piece
answer_on a = answer_line a.ending a.index a.steps a.lines

-- "line 5 0" for each of the first lines of an area
unfoldable pub board_lines : List ℕ → ℕ → Piece
board_lines area n = board (108 ∷ 105 ∷ 110 ∷ 101 ∷ 32 ∷ []) area (min n (length area / 5))

-- "variable 0 5": level and value
unfoldable pub variable_row : ℕ → ℤ → Piece
variable_row level value = row (118 ∷ 97 ∷ 114 ∷ 105 ∷ 97 ∷ 98 ∷ 108 ∷ 101 ∷ []) (level ∷ bits value ∷ []) 1

-- the first n variables
unfoldable pub variable_rows : ℕ → List ℕ → List ℤ → List Piece
variable_rows n levels values = first (λ i. variable_row (get_or levels i 0) (get_or values i (pos 0))) n

-- "node 0 0 0 0 5": depth, existence, content and structure level, and value
unfoldable pub node_row : ℕ → Label → Piece
node_row depth l = row (110 ∷ 111 ∷ 100 ∷ 101 ∷ []) (depth ∷ l.existence ∷ l.content ∷ l.structure ∷ bits l.value ∷ []) 4

-- siblings at a depth: the first, those below it, those to its right
unfoldable pub tree_rows : ℕ → Forest → List Piece
tree_rows depth nil = []
tree_rows depth (tree l c r) = node_row depth l ∷ (tree_rows (suc depth) c ++ tree_rows depth r)

-- what became of a run of n variables that left a tree
unfoldable pub run_pieces : Answer → ℕ → List ℕ → List ℤ → List ℕ → Forest → List Piece
run_pieces a n levels values area t = answer_on a ++ (board_lines area a.lines ∷ (variable_rows n levels values ++ tree_rows 0 t))

-- what became of a job or a script: the answer alone where it was turned back, else the run's, whatever tree its table holds
pub record Shows (o : Outcome) (n places : ℕ) (words levels : List ℕ) (values : List ℤ) (area : List ℕ) (before after : Output) : Type 0 where
  pub refused : ran o ≡ false → Writes (answer_on (answer_of o)) before after
  pub run : ran o ≡ true → (used free x : ℕ) (t : Forest) (p : Place) → Holds (cells words) places used free x t p
      → Writes (run_pieces (answer_of o) n levels values area t) before after

-- of a place's record: place, first child, right sibling, parent, count of children, value, the three levels, left sibling and last child
abbrev pub numbers : ℕ → Node → List ℕ
numbers x d =
    x ∷ d.first ∷ d.right ∷ d.parent ∷ d.children ∷ bits d.value ∷ d.existence ∷ d.content ∷ d.structure ∷ d.left ∷ d.last ∷ []

-- "record 0 1 2 3 4 5 0 0 0 6 7"
unfoldable pub record_row : ℕ → Node → Piece
record_row x d = row (114 ∷ 101 ∷ 99 ∷ 111 ∷ 114 ∷ 100 ∷ []) (numbers x d) 5

-- the records of the first n places
unfoldable pub record_rows : List ℕ → ℕ → List Piece
record_rows words n = first (λ x. record_row x (node_of (cells words x))) n

-- 0 to 9 (48 to 57), a to f (97 to 102)
unfoldable pub digit : ℕ → ℕ
digit n = cond (ltb n 10) (48 + n) (97 + (n - 10))

-- a byte in hexadecimal
unfoldable pub hex_byte : ℕ → Piece
hex_byte b = text (digit (b / 16) ∷ digit (b % 16) ∷ [])

-- bytes in hexadecimal
unfoldable pub hex_bytes : List ℕ → List Piece
hex_bytes bytes = first (λ i. hex_byte (get_or bytes i 0)) (length bytes)
