-- The nodes of a tree in preorder, and a walk over a table that visits them. Assumes nothing.
use Rattle.std.specs.Prelude.{List, [], ◌∷◌, ◌++◌, ◌≡◌, ℕ, suc, drop, Option, Some, None}
use Rattle.rules.specs.Tree.{Forest, nil, tree, child, sibling, Place, root, to, sub, size}
use Rattle.table.specs.Cells.{Table}
use Rattle.table.specs.Holds.{Holds}
use Rattle.print.specs.declared.preorder.Visit.{Visit}

-- a node: its place, and how many steps it stands below the root
pub data Stop : Type 0 where
  stop : Place → ℕ → Stop

-- the nodes of siblings, the first of which stands at a place and a depth: it, then those below it, then those to its right
unfoldable pub preorder : Place → ℕ → Forest → List Stop
preorder p d nil = []
preorder p d (tree l c r) = stop p d ∷ (preorder (to child p) (suc d) c ++ preorder (to sibling p) d r)

-- the walk over the tree t, which the table m holds, has come to its node number k: that is at the table's place x and at the depth d
pub record Stands (m : Table) (n used free : ℕ) (t : Forest) (k x d : ℕ) : Type 0 where
  pub place : Place
  pub rest : List Stop
  pub ahead : drop k (preorder root 0 t) ≡ stop place d ∷ rest
  pub holds : Holds m n used free x t place

-- the walk goes on to node number k, or it is over, since the tree has k nodes
abbrev pub Goes : Table → ℕ → ℕ → ℕ → Forest → ℕ → Option Visit → Type 0
Goes m n used free t k (Some v) = Stands m n used free t k v.place v.depth
Goes m n used free t k None = size t ≡ k

-- the depth of a place
unfoldable pub depth : Place → ℕ
depth root = 0
depth (to child p) = suc (depth p)
depth (to sibling p) = depth p

-- what comes behind the node at a place, its right siblings, and all below them
unfoldable pub later : Forest → Place → List Stop
later t root = []
later t (to child p) = preorder (to sibling p) (depth p) (sub (to sibling p) t) ++ later t p
later t (to sibling p) = later t p

-- what comes from the node at a place on
unfoldable pub from : Forest → Place → List Stop
from t p = preorder p (depth p) (sub p t) ++ later t p

-- the first of these nodes stands at the table's place x and at the depth d
pub record Begins (m : Table) (n used free : ℕ) (t : Forest) (stops : List Stop) (x d : ℕ) : Type 0 where
  pub place : Place
  pub holds : Holds m n used free x t place
  pub deep : d ≡ depth place
  pub same : stops ≡ from t place

-- of these nodes the first, if there is one
abbrev pub First : Table → ℕ → ℕ → ℕ → Forest → List Stop → Option Visit → Type 0
First m n used free t stops (Some v) = Begins m n used free t stops v.place v.depth
First m n used free t stops None = stops ≡ []
