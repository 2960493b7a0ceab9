use mathlib.Core.Path.{◌≡◌}
use lib.ListN.{length}
use Rattle.table.specs.Cells.{cells}
use Rattle.lent.specs.Stands.{Asked}
use Rattle.lent.proofs.Walking.{Walking, turns}
use Rattle.lent.proofs.standing.held.Given as goal

abbrev pub invariant-loop-x : goal.invariant-loop-x
invariant-loop-x l = (length l.dues ≡ length l.initial.dues) × (length l.bounds ≡ length l.initial.bounds) × (length l.marks ≡ length l.initial.marks) × Walking (cells l.words) l.places l.dues l.bounds l.marks l.s
    × Asked l.s l.places l.x

abbrev pub decreases-loop-x : goal.decreases-loop-x
decreases-loop-x l = turns l.s
