-- What it means that a table holds a tree with the cursor at a place of it. Nothing here follows a link: the tree is written with the place of
-- each node beside it, and each node's cell is the one that this tells. Assumes nothing.
use Rattle.std.specs.Prelude.{◌≡◌, ℕ, ◌+◌, ◌<◌, ◌≤◌, Bool, true, false, eqb}
use Rattle.rules.specs.Limits.{max_nodes}
use Rattle.rules.specs.Tree.{Label, Forest, nil, tree, Side, child, sibling, Place, root, to, count}
use Rattle.table.specs.Cells.{cell, Table, ByteLevels, gone}

-- siblings from left to right, as in Forest, each with its place in the table
pub data Placed : Type 0 where
  empty : Placed
  node : ℕ → Label → Placed → Placed → Placed

-- the forest without the places
abbrev pub erase : Placed → Forest
erase empty = nil
erase (node x l c r) = tree l (erase c) (erase r)

-- what a link to the forest holds: the first node's place
abbrev pub head : Placed → ℕ
head empty = gone
head (node x l c r) = x

-- the last node's place, or v where there is none
abbrev pub last : ℕ → Placed → ℕ
last v empty = v
last v (node x l c r) = last x r

-- what stands on a side of the first node
abbrev pub beside : Side → Placed → Placed
beside d empty = empty
beside child (node x l c r) = c
beside sibling (node x l c r) = r

-- what stands at a place of the tree
abbrev pub part : Place → Placed → Placed
part root f = f
part (to d p) f = beside d (part p f)

-- the table stores the forest, whose nodes have the parent u and stand right of v: their places are below `used`, the cell at each is the node's, and
-- levels are bytes
abbrev pub Stored : Table → ℕ → ℕ → ℕ → Placed → Type 0
Stored m used u v empty = Unit
Stored m used u v (node x l c r) =
    (x < used) × (m x ≡ cell (head c) (head r) u v (last gone c) (count (erase c)) l) × Stored m used x gone c × Stored m used u x r × ByteLevels l

-- the free places: a stack of forests that were removed, each here by its first place with what hangs below it and to its right
pub data Spare : Type 0 where
  end : Spare
  more : ℕ → Placed → Placed → Spare → Spare

-- what a link to the stack holds
abbrev pub top : Spare → ℕ
top end = gone
top (more x c r s) = x

-- of a forest that was removed the links to first children and right siblings still lead through it
abbrev pub Linked : Table → ℕ → Placed → Type 0
Linked m used empty = Unit
Linked m used (node x l c r) = (x < used) × ((m x).first ≡ head c) × ((m x).right ≡ head r) × Linked m used c × Linked m used r

-- the table stores the stack: the parent word of each forest's first place leads to the next
abbrev pub Free : Table → ℕ → Spare → Type 0
Free m used end = Unit
Free m used (more x c r s) =
    (x < used) × ((m x).first ≡ head c) × ((m x).right ≡ head r) × ((m x).parent ≡ top s) × Linked m used c × Linked m used r × Free m used s

-- a test as 1 or 0
abbrev pub one : Bool → ℕ
one true = 1
one false = 0

-- 1 where two places are the same, else 0
unfoldable pub hit : ℕ → ℕ → ℕ
hit x y = one (eqb x y)

-- how often a place stands in a forest, and among the free places
abbrev pub times : ℕ → Placed → ℕ
times x empty = 0
times x (node y l c r) = hit x y + times x c + times x r

abbrev pub spare_times : ℕ → Spare → ℕ
spare_times x end = 0
spare_times x (more y c r s) = hit x y + times x c + times x r + spare_times x s

-- The table, of n places, holds the tree t, and the node at the place p of t, where the cursor is, stands at the table's place `at`. The places
-- below `used` were used so far; `free` leads to those of them that are free.
pub record Holds (m : Table) (n used free at : ℕ) (t : Forest) (p : Place) : Type 0 where
  pub few : n ≤ max_nodes
  pub room : used ≤ n
  pub placed : Placed
  pub spare : Spare
  -- the places of t, whose root stands at place 0 and has no siblings
  pub is_tree : erase placed ≡ t
  pub is_root : head placed ≡ 0
  pub alone : count t ≡ 1
  pub stored : Stored m used gone gone placed
  -- the cursor's node, which exists
  pub here : head (part p placed) ≡ at
  pub live : at < used
  -- the free places
  pub freed : Free m used spare
  pub leads : top spare ≡ free
  -- every used place stands once, in the tree or among the free places: no two nodes share one, and none is lost
  pub each : (x : ℕ) → x < used → times x placed + spare_times x spare ≡ 1
