use mathlib.Core.Path.{◌≡◌}
use lib.ListN.{length}
use Rattle.table.specs.Cells.{cells}
use Rattle.table.specs.Promises.{Behind}
use Rattle.table.specs.Steps.{Cleared}
use Rattle.table.proofs.records.clear.Given as goal

abbrev pub invariant-loop-x : goal.invariant-loop-x
invariant-loop-x l = (length l.words ≡ length l.initial.words) × Cleared (cells l.words) l.x × Behind l.n (cells l.initial.words) (cells l.words)
