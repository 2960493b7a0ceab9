-- The walk is where the laws say, over records, and x is what it asks for. The measure is the turns that are left. Assumes nothing.
use Rattle.std.proofs.Common.{◌≡◌, length}
use Rattle.rules.specs.Limits.{max_nodes}
use Rattle.lent.specs.Lent.{nodes_table}
use Rattle.lent.specs.Stands.{Asked}
use Rattle.lent.proofs.Walking.{Walking, turns}
use Rattle.entry.proofs.standing.held.Given as goal

abbrev pub invariant-loop-x : goal.invariant-loop-x
invariant-loop-x l = record {
  few_dues : length l.dues ≡ max_nodes;
  few_bounds : length l.bounds ≡ max_nodes;
  few_marks : length l.marks ≡ length l.fn.marks;
  walking : Walking (nodes_table l.table) l.n l.dues l.bounds l.marks l.s;
  asked : Asked l.s l.n l.x;
}

abbrev pub decreases-loop-x : goal.decreases-loop-x
decreases-loop-x l = turns l.s
