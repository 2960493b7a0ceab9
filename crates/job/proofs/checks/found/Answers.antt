-- `found` meets its contract: it is the definition. Assumes nothing.
use borrow.Author.Rules.{rules}
use Rattle.job.specs.Answer.{found}
use Rattle.job.proofs.checks.found.Goals as goal

pub returns : goal.returns
unfolding found
returns c = search rules
