-- A store where the number is smaller. Assumes nothing.
use borrow.Author.Tests.{lt-ltb, le-ltb}
use Rattle.table.specs.Since.{kept}
use Rattle.table.proofs.since.keep.Goals as goal

pub returns-then-k-since : goal.returns-then-k-since
unfolding kept
returns-then-k-since c = rw (lt-ltb c.args.k _ c.if-k-since.true)

pub returns-else-k-since : goal.returns-else-k-since
unfolding kept
returns-else-k-since c = rw (le-ltb c.args.k _ c.if-k-since.false)
