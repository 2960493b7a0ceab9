use mathlib.Core.Path.{◌≡◌}
use lib.ListN.{length}
use Rattle.table.specs.Cells.{cells}
use Rattle.lent.proofs.Reclaiming.{Spared}
use Rattle.lent.proofs.standing.reclaim.Given as goal

abbrev pub invariant-loop-x : goal.invariant-loop-x
invariant-loop-x l = (length l.words ≡ length l.initial.words) × Spared (cells l.initial.words) (cells l.words) l.places l.marks l.x l.free
