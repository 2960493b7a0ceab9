use Prim.Native.Nat.{ℕ, ◌≤◌, ◌<◌}
use lib.ListN.{take}
use Rattle.rules.specs.Tree.{Forest, Place, root}
use Rattle.table.specs.Cells.{cells}
use Rattle.table.specs.Holds.{Holds}
use Rattle.print.specs.Preorder.{Stands, preorder}
use Rattle.frames.specs.Pieces.{Writes}
use Rattle.frames.proofs.Walking.{rows}
use Rattle.frames.proofs.outcome.put_tree.Given as goal

abbrev pub invariant-loop-k : goal.invariant-loop-k
invariant-loop-k l = (l.v.place < l.places) × (l.v.depth ≤ l.k)
    × ((used free x : ℕ) (t : Forest) (p : Place) → Holds (cells l.words) l.places used free x t p
    → Stands (cells l.words) l.places used free t l.k l.v.place l.v.depth × Writes (rows t (take l.k (preorder root 0 t))) l.initial.out l.out)
