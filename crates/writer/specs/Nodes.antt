-- The walk that writes the nodes of a tree, turn by turn, and what it leaves in the area. Assumes nothing.
use Rattle.std.specs.Prelude.{◌≡◌, ℕ, zero, suc, ◌+◌, ◌-◌, ◌*◌, ◌<◌, ◌≤◌, length, get_or, set}
use mathlib.Core.List.{List, flat_map}
use Rattle.rules.specs.Limits.{max_nodes, node_size, no_parent}
use Rattle.rules.specs.Tree.{Forest, size}
use Rattle.rules.specs.Write.{listing, node_bytes}
use Rattle.lent.specs.declared.node.Node.{Node}
use Rattle.table.specs.Cells.{Table, cell_size, cells, gone}
use Rattle.lent.specs.Lent.{node_of, cell_of}
use Rattle.lent.specs.Stands.{Stands}
use Rattle.writer.specs.declared.nodes.Spot.{Spot}
use Rattle.writer.specs.Area.{replaced, entry}

-- the link to the root
abbrev pub start : Spot
start = record { link = 0; up = gone; deep = 0; next = 0 }

-- the index of the node above, by how many nodes stand above
unfoldable pub parent_in : List ℕ → ℕ → ℕ
parent_in b zero = no_parent
parent_in b (suc d) = get_or b d 0

-- down to the children of the node that the link leads to, whose record is d
abbrev pub enter : Spot → Node → Spot
enter s d = record { link = d.first; up = s.link; deep = s.deep + 1; next = s.next + 1 }

-- up from the end of a list, and on right of the node above, whose record is d
abbrev pub leave : Spot → Node → Spot
leave s d = record { link = d.right; up = d.parent; deep = s.deep - 1; next = s.next }

-- what a turn needs to know of where the walk is
pub record Ready (words : List ℕ) (places base : ℕ) (s : Spot) (area : List ℕ) : Type 0 where
  pub long : cell_size * places ≤ length words
  pub above : places ≤ s.link → (0 < s.deep) × (s.up < places)
  pub below : s.link < places → (s.deep < max_nodes) × (s.next < max_nodes) × (base + node_size * s.next + node_size ≤ length area)

-- one turn: up, or down with the node written behind those before it; by depth, b has the indexes of the nodes above
pub data Turned (m : Table) (n base : ℕ) (s : Spot) (b area b' area' : List ℕ) (r : Spot) : Type 0 where
  left : n ≤ s.link → r ≡ leave s (node_of (m s.up)) → b' ≡ b → area' ≡ area → Turned m n base s b area b' area' r
  entered : s.link < n → r ≡ enter s (node_of (m s.link)) → b' ≡ set b s.deep s.next
      → area' ≡ replaced area (base + node_size * s.next) (node_bytes (entry (parent_in b s.deep) (cell_of (node_of (m s.link))).label))
      → Turned m n base s b area b' area' r

-- a tree of so many nodes stands in the words, and there is room for their records in an area of a size
pub record Listable (words : List ℕ) (places nodes base area : ℕ) : Type 0 where
  pub long : cell_size * places ≤ length words
  pub few : places ≤ max_nodes
  pub t : Forest
  pub stands : Stands (cells words) places t
  pub all : size t ≡ nodes
  pub room : base + node_size * nodes ≤ area

-- the records of the tree's nodes stand at a place, "each node is followed at once by its whole subtree, children from left to right"
unfoldable pub NodesPut : Table → ℕ → ℕ → List ℕ → List ℕ → Type 0
NodesPut m n base area area' = (t : Forest) → Stands m n t → area' ≡ replaced area base (flat_map node_bytes (listing no_parent 0 t))
