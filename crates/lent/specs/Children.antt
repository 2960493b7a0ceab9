-- R-8: each node record's count of children, by the tree that the table holds and by the links alone. Assumes nothing.
use Rattle.std.specs.Prelude.{◌≡◌, true, ℕ, zero, suc}
use Rattle.rules.specs.Tree.{Forest, child, along, Place, root, to, sub, exists, count}
use Rattle.table.specs.Cells.{Table, gone, link}

-- where the node at a place of the tree stands in the table: the root at 0, every other where a link leads from the node before it on the way
unfoldable pub place_of : Table → Place → ℕ
place_of m root = 0
place_of m (to d p) = link d (m (place_of m p))

-- "each live node's count equals the number of its live children in the tree"
unfoldable pub Counts : Table → Forest → Type 0
Counts m t = (p : Place) → exists (sub p t) ≡ true → (m (place_of m p)).children ≡ count (along child (sub p t))

-- the links lead from place 0 to a node at p, whatever else the table holds
abbrev pub Live : Table → Place → Type 0
Live m root = Unit
Live m (to d p) = Live m p × (place_of m (to d p) ≡ gone → ⊥)

-- the links lead from x on to k siblings, one right of the other
abbrev pub Row : Table → ℕ → ℕ → Type 0
Row m x zero = x ≡ gone
Row m x (suc k) = (x ≡ gone → ⊥) × Row m (m x).right k

-- a live node's count is wrong: the links lead to k children, and it is another number
pub record WrongCount (m : Table) : Type 0 where
  pub node : Place
  pub live : Live m node
  pub k : ℕ
  pub children : Row m (m (place_of m node)).first k
  pub wrong : (m (place_of m node)).children ≡ k → ⊥

-- two tables have the same cells where the nodes of the first are live; what they hold elsewhere, counts among it, does not matter
unfoldable pub SameLive : Table → Table → Type 0
SameLive m m' = (p : Place) → Live m p → m' (place_of m p) ≡ m (place_of m p)
