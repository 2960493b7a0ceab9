-- What the functions over the table promise of every tree that it holds. Assumes nothing.
use Rattle.std.specs.Prelude.{◌≡◌, true, false, List, ℕ, ◌+◌, ◌*◌, ◌<◌, ◌≤◌, length, ltb, ℤ}
use Rattle.std.proofs.Math.Option.{Option, none, some}
use Rattle.rules.specs.Limits.{max_nodes, node_size}
use Rattle.rules.specs.Check.{parent_rule}
use Rattle.rules.specs.Job.{tree_of}
use Rattle.rules.specs.Tree.{Label, Forest, Side, Place, root, to, sub, exists, size, change, insert, remove, set_value, after_insert, after_remove}
use Rattle.table.specs.Cells.{Table, cell_size, gone}
use Rattle.table.specs.Holds.{Holds}

-- P holds of every tree and place that the table holds with the cursor at x
abbrev pub Whenever : Table → ℕ → ℕ → (Forest → Place → Type 0) → Type 0
Whenever m n x P = (used free : ℕ) (t : Forest) (p : Place) → Holds m n used free x t p → P t p

-- a move from the cursor: r is the table's place of the node at the place o of the tree, or no place of the table where there is no such node
pub data Leads (m : Table) (n used free : ℕ) (t : Forest) (o : Option Place) (r : ℕ) : Type 0 where
  outside : n ≤ r → o ≡ none → Leads m n used free t o r
  missing : (q : Place) → n ≤ r → o ≡ some q → exists (sub q t) ≡ false → Leads m n used free t o r
  found : (q : Place) → r < n → o ≡ some q → Holds m n used free r t q → Leads m n used free t o r

-- no cell behind the first n has changed
pub record Behind (n : ℕ) (m m' : Table) : Type 0 where
  pub same : (y : ℕ) → n ≤ y → m' y ≡ m y

-- A new node with the label l on the side d of the cursor's node. It gets a place x of the table where no node stands, and nothing changes but in
-- the tree; there is no place for it where every one holds a live node, and the tree stays then.
pub record Added (d : Side) (l : Label) (m m' : Table) (n used free at x free' used' : ℕ) (t : Forest) (p : Place) : Type 0 where
  pub when : ltb x n ≡ ltb (size t) n
  pub none : n ≤ x → x ≡ gone
  pub kept : n ≤ x → (y : ℕ) (q : Place) → Holds m n used free y t q → Holds m' n used' free' y t q
  pub done : x < n → Holds m' n used' free' at (change (to d p) (insert l) t) p
  pub stands : x < n → Holds m' n used' free' x (change (to d p) (insert l) t) (to d p)
  pub vacant : x < n → (q : Place) → Holds m n used free x t q → ⊥
  -- every node keeps its place of the table
  pub moved : x < n → (y : ℕ) (q : Place) → Holds m n used free y t q → Holds m' n used' free' y (change (to d p) (insert l) t) (after_insert (to d p) q)

-- The first node on the side d of the cursor's node is removed with its subtree; every other node keeps its place of the table.
pub record Removed (d : Side) (m m' : Table) (n used free free' at : ℕ) (t : Forest) (p : Place) : Type 0 where
  pub done : Holds m' n used free' at (change (to d p) remove t) p
  pub moved : (y : ℕ) (q r : Place) → Holds m n used free y t q → after_remove (to d p) q ≡ some r
      → Holds m' n used free' y (change (to d p) remove t) r

-- The cursor's node gets the value v; every node keeps its place of the table.
pub record Valued (v : ℤ) (m m' : Table) (n used free at : ℕ) (t : Forest) (p : Place) : Type 0 where
  pub done : Holds m' n used free at (change p (set_value v) t) p
  pub moved : (y : ℕ) (q : Place) → Holds m n used free y t q → Holds m' n used free y (change p (set_value v) t) q

-- n node records of a job, of which there is one, from base on, and room for as many places
pub record Loadable (job words : List ℕ) (base n : ℕ) : Type 0 where
  pub whole : base + node_size * n ≤ length job
  pub long : cell_size * n ≤ length words
  pub some : 1 ≤ n
  pub few : n ≤ max_nodes

-- in a table of at least n places stands the tree of n node records, if the parent rule holds for each, with the cursor at the root
unfoldable pub Loaded : List ℕ → ℕ → ℕ → Table → Type 0
Loaded job base n m =
    ((i : ℕ) → i < n → parent_rule job base i ≡ true) → (places : ℕ) → n ≤ places → places ≤ max_nodes
    → Holds m places n gone 0 (tree_of job base n) root
