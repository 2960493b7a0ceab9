-- `cover_set` meets its contract: it is the definition. Assumes nothing.
use borrow.Author.Tests.{eq-eqb, ne_eqb}
use Rattle.rules.specs.Level.{secret}
use Rattle.rules.specs.Script.{cover_set}
use Rattle.actions.proofs.sets.cover_set.Goals as goal

pub returns-then-set-eq0 : goal.returns-then-set-eq0
unfolding cover_set secret
returns-then-set-eq0 c = rw (eq-eqb _ 0 c.if-set-eq0.true)

pub returns-else-set-eq0 : goal.returns-else-set-eq0
unfolding cover_set
returns-else-set-eq0 c = rw (ne_eqb _ 0 c.if-set-eq0.false)
