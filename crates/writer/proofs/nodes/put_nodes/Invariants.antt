use mathlib.Core.Path.{◌≡◌}
use lib.ListN.{length}
use Rattle.rules.specs.Limits.{max_nodes}
use Rattle.rules.specs.Tree.{Forest, size}
use Rattle.table.specs.Cells.{cells}
use Rattle.lent.specs.Stands.{Stands}
use Rattle.writer.proofs.Walked.{Writing, turns}
use Rattle.writer.proofs.nodes.put_nodes.Given as goal

abbrev pub invariant-loop-s : goal.invariant-loop-s
invariant-loop-s l = (length l.area ≡ length l.initial.area) × (length l.indexes ≡ max_nodes) × ((t : Forest) → Stands (cells l.words) l.places t → size t ≡ l.nodes → Writing (cells l.words) l.places l.base t l.initial.area l.indexes l.area l.s)

abbrev pub decreases-loop-s : goal.decreases-loop-s
decreases-loop-s l = turns l.nodes l.s
