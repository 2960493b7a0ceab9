-- The two arms of `overAt`. Assumes nothing.
use borrow.Author.Tests.{lt-ltb, le-ltb}
use Rattle.interpreter.specs.Steps.{over_at}
use Rattle.interpreter.proofs.run.over.Goals as goal

pub returns-then-at-records : goal.returns-then-at-records
unfolding over_at
returns-then-at-records c = rw (lt-ltb _ _ c.if-at-records.true)

pub returns-else-at-records : goal.returns-else-at-records
unfolding over_at
returns-else-at-records c = rw (le-ltb _ _ c.if-at-records.false)
