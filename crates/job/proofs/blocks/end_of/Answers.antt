-- `end_of` meets its contract: by whether an if that comes back opened the block. Assumes nothing.
use borrow.Author.Tests.{eq-eqb, ne_eqb}
use Rattle.job.specs.Plan.{end_code}
use Rattle.job.proofs.blocks.end_of.Goals as goal

pub returns-then-opener-eq-BACK : goal.returns-then-opener-eq-BACK
unfolding end_code
returns-then-opener-eq-BACK c = rw (eq-eqb _ 17 c.if-opener-eq-BACK.true)

pub returns-else-opener-eq-BACK : goal.returns-else-opener-eq-BACK
unfolding end_code
returns-else-opener-eq-BACK c = rw (ne_eqb _ 17 c.if-opener-eq-BACK.false)
