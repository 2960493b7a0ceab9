-- `levels_at` meets its contract: it is the definition. Assumes nothing.
use Rattle.rules.specs.Check.{existence, content, structure}
use Rattle.fields.specs.Fields.{levels_of}
use borrow.Author.Rules.{rules}
use Rattle.fields.proofs.nodes.levels_at.Goals as goal

pub returns : goal.returns
unfolding levels_of existence content structure
returns c = search rules
