-- The two sides of the cursor's node: what its cell says of each, and that a node with a sibling has a parent. Assumes nothing.
use mathlib.Core.Path.{◌≡◌, refl, ap}
use Prim.Native.Nat.{ℕ, suc, ◌<◌}
use native.Mathlib.Omega.{arith}
use Rattle.rules.specs.Tree.{Label, Forest, Side, child, sibling, Place, count}
use Rattle.table.specs.Cells.{Table, link}
use Rattle.table.specs.Holds.{Placed, empty, node, erase, head, beside, Spare, Holds}
use Rattle.table.proofs.Ways.{Way, home, step, path_of, parent_of}
use Rattle.table.proofs.Focus.{Focus, across, down, back, At, seen, whole}

-- back from a side to the node
pub return : {m : Table} {n used free x : ℕ} {t : Forest} {l : Label} {o f : Placed} {s : Spare} (d : Side) (k : Way)
    → Focus m n used free t empty (step d x l o k) f s → Holds m n used free x t (path_of k)
return child k h = whole k (back child h)
return sibling k h = whole k (back sibling h)

-- what the node's cell says of a side
module _ {m : Table} {n used free x : ℕ} {t : Forest} {w : Placed} {l : Label} {o : Placed} {k : Way} {f : Placed} {s : Spare} where
  pub link_above : (d : Side) → Focus m n used free t w (step d x l o k) f s → link d (m x) ≡ head f
  link_above child h = ap (λ a. a.first) h.above.1
  link_above sibling h = ap (λ a. a.right) h.above.1

module _ {m : Table} {n used free : ℕ} {t : Forest} {w : Placed} {s : Spare} where
  inner : (j : ℕ) (k : Way) (f : Placed) → Focus m n used free t w k f s → count (erase f) ≡ suc (suc j) → parent_of k < n
  unfolding count
  inner j home f h e = absurd (omega (arith, h.above.1))
  inner j (step child x l o k) f h e = omega (arith, h.above.0, h.room)
  inner j (step sibling x l o k) f h e = inner (suc j) k (node x l o f) (back sibling h) (ap suc e)

  -- below a node, and to the right of one that has a right sibling, the parent is a node
  pub has_parent : (d : Side) {x : ℕ} {l : Label} {o : Placed} (k : Way) (f : Placed) → Focus m n used free t w (step d x l o k) f s → head f < n
      → parent_of (step d x l o k) < n
  unfolding count
  has_parent child k f h lt = omega (arith, h.above.0, h.room)
  has_parent sibling k empty h lt = absurd (omega (arith, h.few))
  has_parent sibling {x} {l} {o} k (node y a c r) h lt = inner (count (erase r)) k (node x l o (node y a c r)) (back sibling h) refl

-- the view from a side of the cursor's node
module _ {m : Table} {n used free x : ℕ} {t : Forest} {p : Place} (h : Holds m n used free x t p) where
  pub at : At m n used free x t p
  at = seen h

  module _ (d : Side) where
    abbrev pub way_on : Way
    way_on = step d x at.l (across d (node x at.l at.c at.r)) at.k

    abbrev pub forest_on : Placed
    forest_on = beside d (node x at.l at.c at.r)

    pub view_on : Focus m n used free t empty way_on forest_on at.s
    view_on = down d at.focus
