-- One store, where the place has a mark of its own. Assumes nothing.
use borrow.Author.Tests.{lt-ltb, le-ltb}
use Rattle.rules.specs.Limits.{max_nodes}
use Rattle.lent.specs.Stands.{mark}
use Rattle.lent.proofs.standing.mark.Goals as goal

pub returns-then-at-lt-MAX_NODES : goal.returns-then-at-lt-MAX_NODES
unfolding mark
returns-then-at-lt-MAX_NODES c = rw (lt-ltb c.args.y max_nodes c.if-at-lt-MAX_NODES.true)

pub returns-else-at-lt-MAX_NODES : goal.returns-else-at-lt-MAX_NODES
unfolding mark
returns-else-at-lt-MAX_NODES c = rw (le-ltb c.args.y max_nodes c.if-at-lt-MAX_NODES.false)
