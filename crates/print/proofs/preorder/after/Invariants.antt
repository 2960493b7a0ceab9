use mathlib.Core.Path.{◌≡◌}
use Prim.Native.Nat.{ℕ, ◌≤◌, ◌<◌}
use Rattle.rules.specs.Tree.{Forest, Place}
use Rattle.table.specs.Cells.{cells}
use Rattle.table.specs.Holds.{Holds}
use Rattle.print.specs.Preorder as Preorder
use Rattle.print.proofs.Visiting.{Climb}
use Rattle.print.proofs.preorder.after.Given as goal

abbrev pub invariant-loop-places : goal.invariant-loop-places
invariant-loop-places l = (l.x < l.places) × (l.d ≤ l.depth) × ((used free : ℕ) (t : Forest) (p : Place) → Holds (cells l.words) l.places used free l.at t p → l.depth ≡ Preorder.depth p → Climb (cells l.words) l.places used free t p l.x l.d)

abbrev pub decreases-loop-places : goal.decreases-loop-places
decreases-loop-places l = l.d
