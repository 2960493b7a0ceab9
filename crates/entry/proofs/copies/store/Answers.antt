-- One record more is that of its place. Assumes nothing.
use Rattle.std.proofs.Common.{add-one}
use Rattle.entry.proofs.copies.store.Goals as goal

pub loop-x-preserved : goal.loop-x-preserved
loop-x-preserved c = rw (add-one, c.node_of.ensures, c.loop-x.invariant)
