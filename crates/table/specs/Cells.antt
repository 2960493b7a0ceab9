-- The table's words, `cellSize` to a place of one slice, and the cell that they spell. Assumes nothing.
use Rattle.std.specs.Prelude.{List, ℕ, ◌+◌, ◌*◌, ◌%◌, ◌<◌, ◌≤◌, get_or, length}
use Rattle.rules.specs.Limits.{max_nodes, no_parent}
use Rattle.rules.specs.Number.{range, signed}
use Rattle.rules.specs.Tree.{Label, Side, child, sibling}
use Rattle.table.specs.declared.Side as Sides
use Rattle.table.specs.declared.Side.TheVariants.{First, Right}
use Rattle.table.specs.declared.shape.NewNode.{NewNode}

-- what a link holds where it leads to no node: a number that is no place
abbrev pub gone : ℕ
gone = no_parent

-- the cell of a node: the places of its first child, right sibling, parent, left sibling and last child, how many children it has, and its label
pub record Cell : Type 0 where
  pub first : ℕ
  pub right : ℕ
  pub parent : ℕ
  pub left : ℕ
  pub last : ℕ
  pub children : ℕ
  pub label : Label

abbrev pub cell : ℕ → ℕ → ℕ → ℕ → ℕ → ℕ → Label → Cell
cell f r u v z j l = record { first = f; right = r; parent = u; left = v; last = z; children = j; label = l }

-- a table: the cell at each place
abbrev pub Table : Type 0
Table = ℕ → Cell

-- how many words a cell has
abbrev pub cell_size : ℕ
cell_size = 10

-- word j of place x
abbrev pub word : List ℕ → ℕ → ℕ → ℕ
word b x j = get_or b (cell_size * x + j) 0

-- a place as a word
unfoldable pub word_of : ℕ → ℕ
word_of x = x % range

-- the label of a value's 32 bits and three levels
abbrev pub label_with : ℕ → ℕ → ℕ → ℕ → Label
label_with v e c s = record { value = signed v; existence = e; content = c; structure = s }

-- the label of a new node
abbrev pub label_new : NewNode → Label
label_new d = label_with d.value d.existence d.content d.structure

-- the levels of a label are bytes
pub record ByteLevels (l : Label) : Type 0 where
  pub existence : l.existence < 256
  pub content : l.content < 256
  pub structure : l.structure < 256

-- the table that a slice of words spells: first child, right sibling, parent, existence, value, count of children, content, structure, left sibling,
-- last child
unfoldable pub cells : List ℕ → Table
cells b x =
    cell (word b x 0) (word b x 1) (word b x 2) (word b x 8) (word b x 9) (word b x 5)
    (label_with (word b x 4) (word b x 3) (word b x 6) (word b x 7))

-- the side of the rules' tree
abbrev pub side_of : Sides.Side → Side
side_of First = child
side_of Right = sibling

-- the word of the link to a side
abbrev pub word_on : Side → ℕ
word_on child = 0
word_on sibling = 1

-- the link to a side
abbrev pub link : Side → Cell → ℕ
link child a = a.first
link sibling a = a.right

-- the place of the left sibling that the first node on a side of the one at x has: none, or x itself
abbrev pub left_on : Side → ℕ → ℕ
left_on child x = gone
left_on sibling x = x

-- a slice with room for n places, "1 to 512", of which x is one
pub record Within (b : List ℕ) (n x : ℕ) : Type 0 where
  pub long : cell_size * n ≤ length b
  pub few : n ≤ max_nodes
  pub inside : x < n
