-- `word` meets its contract: it is the definition. Assumes nothing.
use Rattle.job.specs.Plan.{entry}
use borrow.Author.Rules.{rules}
use Rattle.job.proofs.blocks.word.Goals as goal

pub returns : goal.returns
unfolding entry
returns c = search rules
