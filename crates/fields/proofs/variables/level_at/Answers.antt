-- `level_at` meets its contract: it is the definition. Assumes nothing.
use Rattle.rules.specs.Job.{variable_of}
use borrow.Author.Rules.{rules}
use Rattle.fields.proofs.variables.level_at.Goals as goal

pub returns : goal.returns
unfolding variable_of
returns c = search rules
