-- `code` meets its contract: it is the definition. Assumes nothing.
use Rattle.job.specs.Plan.{code_of}
use borrow.Author.Rules.{rules}
use Rattle.job.proofs.plan.code.Goals as goal

pub returns : goal.returns
unfolding code_of
returns c = search rules
