-- `next` meets its contract: it is the definition. Assumes nothing.
use Rattle.job.specs.Plan.{next_of}
use borrow.Author.Rules.{rules}
use Rattle.job.proofs.plan.next.Goals as goal

pub returns : goal.returns
unfolding next_of
returns c = search rules
