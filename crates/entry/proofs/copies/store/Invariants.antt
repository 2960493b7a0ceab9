-- The records before x are those of their places. Assumes nothing.
use Rattle.std.proofs.Common.{◌≡◌}
use Rattle.lent.specs.Lent.{stored}
use Rattle.entry.proofs.copies.store.Given as goal

abbrev pub invariant-loop-x : goal.invariant-loop-x
invariant-loop-x l = l.table ≡ stored l.words l.x l.initial.table
