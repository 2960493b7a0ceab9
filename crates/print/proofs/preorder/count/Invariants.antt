use Prim.Native.Nat.{ℕ, ◌≤◌, ◌<◌}
use Rattle.rules.specs.Tree.{Forest, Place}
use Rattle.table.specs.Cells.{cells}
use Rattle.table.specs.Holds.{Holds}
use Rattle.print.specs.Preorder.{Stands}
use Rattle.print.proofs.preorder.count.Given as goal

abbrev pub invariant-loop-n : goal.invariant-loop-n
invariant-loop-n l = (l.v.place < l.places) × (l.v.depth ≤ l.n) × ((used free x : ℕ) (t : Forest) (p : Place) → Holds (cells l.words) l.places used free x t p → Stands (cells l.words) l.places used free t l.n l.v.place l.v.depth)
