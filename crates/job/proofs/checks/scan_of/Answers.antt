-- `scan_of` meets its contract: it is the definition. Assumes nothing.
use borrow.Author.Tests.{lt-ltb, le-ltb}
use Rattle.job.specs.Answer.{scan_of}
use Rattle.job.proofs.checks.scan_of.Goals as goal

pub returns-then-fault-count : goal.returns-then-fault-count
unfolding scan_of
returns-then-fault-count c = rw (lt-ltb _ _ c.if-fault-count.true)

pub returns-else-fault-count : goal.returns-else-fault-count
unfolding scan_of
returns-else-fault-count c = rw (le-ltb _ _ c.if-fault-count.false)
