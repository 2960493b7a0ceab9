-- What it means that a table which may hold anything stores a tree, and the walk that asks for it. Assumes nothing.
use Rattle.std.specs.Prelude.{◌≡◌, Bool, true, false, ◌&&◌, cond, List, ℕ, zero, suc, ◌+◌, ◌-◌, ◌<◌, ◌≤◌, eqb, ltb, get_or, length, set}
use Rattle.rules.specs.Level.{Level, public, not_above, is_level}
use Rattle.rules.specs.Limits.{max_nodes}
use Rattle.rules.specs.Tree.{Label, Forest, count, size, TreeRules, root}
use Rattle.lent.specs.declared.node.Node.{Node}
use Rattle.lent.specs.declared.standing.Spot.{Spot}
use Rattle.table.specs.Cells.{Table, gone, ByteLevels}
use Rattle.table.specs.Holds.{Placed, erase, head, Stored, times, Holds}
use Rattle.lent.specs.Lent.{cell_of}

-- A table of n places stores the tree t, which keeps the tree rules and has at most 512 nodes. The root stands at place 0, with no parent and no
-- sibling; each link of a node is no place or leads to a place below n. What all other places hold does not matter.
pub record Stands (m : Table) (n : ℕ) (t : Forest) : Type 0 where
  pub placed : Placed
  pub is_tree : erase placed ≡ t
  pub is_root : head placed ≡ 0
  pub alone : count t ≡ 1
  pub stored : Stored m n gone gone placed
  pub few : size t ≤ max_nodes
  pub rules : TreeRules t

-- r tells whether a tree stands in the table
pub record Decided (m : Table) (n : ℕ) (r : Bool) : Type 0 where
  pub sound : r ≡ true → (t : Forest) × Stands m n t
  pub exact : (t : Forest) → Stands m n t → r ≡ true

-- 1 where a number is not 0, else 0
abbrev pub flag : ℕ → ℕ
flag zero = 0
flag (suc k) = 1

-- 1 where a place has a mark, else 0
unfoldable pub seen : List ℕ → ℕ → ℕ
seen marks x = flag (get_or marks x 0)

-- of the first 512 places those with a mark are the places of the tree that stands in the table
unfoldable pub Marked : Table → ℕ → List ℕ → Type 0
Marked m n marks = (t : Forest) (h : Stands m n t) (x : ℕ) → x < n → x < max_nodes → times x h.placed ≡ seen marks x

-- what leads to `free` are the places with no mark, for the tree that has those with one
unfoldable pub Reclaimed : Table → Table → ℕ → List ℕ → ℕ → Type 0
Reclaimed m m' n marks free = Marked m n marks → (t : Forest) → Stands m n t → Holds m' n n free 0 t root

-- the tree rules for a node, as one test
unfoldable pub label_fits : Level → Level → Label → Bool
label_fits lo hi l =
    is_level l.existence && is_level l.content && is_level l.structure && not_above lo l.existence && not_above l.existence hi
    && not_above l.existence l.content && not_above l.existence l.structure

-- the link to the root
unfoldable pub start : Spot
start = record { link = 0; up = gone; prev = gone; due = 1; lo = public; hi = public; deep = 0; entered = 0 }

-- the place x whose record the walk needs: that of the node above where a list is at its end, or the one that the link leads to. At the end it is n
-- where no tree stands in the table, one more where one does.
pub data Asked (s : Spot) (n x : ℕ) : Type 0 where
  short : s.link ≡ gone → 0 < s.due → x ≡ n → Asked s n x
  over : s.link ≡ gone → s.due ≡ 0 → s.deep ≡ 0 → x ≡ n + 1 → Asked s n x
  up : s.link ≡ gone → s.due ≡ 0 → 0 < s.deep → x ≡ s.up → Asked s n x
  full : (s.link ≡ gone → ⊥) → max_nodes ≤ s.entered → x ≡ n → Asked s n x
  outside : (s.link ≡ gone → ⊥) → n ≤ s.link → x ≡ n → Asked s n x
  down : (s.link ≡ gone → ⊥) → s.entered < max_nodes → s.link < n → x ≡ s.link → Asked s n x

-- the record d can be that of the node that the link leads to
unfoldable pub admits : Spot → Node → Bool
admits s d =
    eqb d.parent s.up && eqb d.left s.prev && ltb 0 s.due && label_fits s.lo s.hi (cell_of d).label

-- the record d can be that of the node above, at the end of the list of its children
unfoldable pub closes : Spot → Node → Bool
closes s d = eqb d.last s.prev

-- up from the end of a list, where `due` siblings are due with the bound hi, and on right of the node above, whose record is d
abbrev pub leave : Spot → Node → ℕ → Level → Spot
leave s d due hi =
    record {
      link = d.right;
      up = d.parent;
      prev = s.up;
      due = due;
      lo = d.existence;
      hi = hi;
      deep = s.deep - 1;
      entered = s.entered;
    }

-- down to the children of the node that the link leads to, whose record is d
abbrev pub enter : Spot → Node → Spot
enter s d =
    record {
      link = d.first;
      up = s.link;
      prev = gone;
      due = d.children;
      lo = d.existence;
      hi = d.structure;
      deep = s.deep + 1;
      entered = s.entered + 1;
    }

-- a list that is too short
abbrev pub stuck : Spot → Spot
stuck s =
    record { link = gone; up = s.up; prev = s.prev; due = 1; lo = s.lo; hi = s.hi; deep = s.deep; entered = s.entered }

-- a place is marked, if it is one of the first 512
unfoldable pub mark : List ℕ → ℕ → List ℕ
mark marks y = cond (ltb y max_nodes) (set marks y 1) marks

-- what a turn needs to know of where the walk is
pub record Ready (s : Spot) : Type 0 where
  pub above : s.link ≡ gone → (0 < s.deep) × (s.deep ≤ max_nodes)
  pub below : (s.link ≡ gone → ⊥) → (s.deep < max_nodes) × (s.entered ≤ max_nodes)

-- room for what stands by depth and for the marks
pub record Rooms (b e c : List ℕ) : Type 0 where
  pub dues : max_nodes ≤ length b
  pub bounds : max_nodes ≤ length e
  pub marks : max_nodes ≤ length c

-- one turn with the record d of the place that was asked for; by depth, b has the siblings due and e what bounds them; c has the marks
pub data Turned (s : Spot) (d : Node) (b e c b' e' c' : List ℕ) (r : Spot) : Type 0 where
  left : s.link ≡ gone → closes s d ≡ true → r ≡ leave s d (get_or b (s.deep - 1) 0) (get_or e (s.deep - 1) 0) → b' ≡ b → e' ≡ e → c' ≡ c
      → Turned s d b e c b' e' c' r
  open_ended : s.link ≡ gone → closes s d ≡ false → r ≡ stuck s → b' ≡ b → e' ≡ e → c' ≡ c → Turned s d b e c b' e' c' r
  entered : (s.link ≡ gone → ⊥) → admits s d ≡ true → ByteLevels (cell_of d).label → r ≡ enter s d → b' ≡ set b s.deep (s.due - 1)
      → e' ≡ set e s.deep s.hi → c' ≡ mark c s.link → Turned s d b e c b' e' c' r
  refused : (s.link ≡ gone → ⊥) → admits s d ≡ false → r ≡ stuck s → b' ≡ b → e' ≡ e → c' ≡ c → Turned s d b e c b' e' c' r
