-- `code_at` meets its contract: it is the definition. Assumes nothing.
use Rattle.rules.specs.Check.{code}
use borrow.Author.Rules.{rules}
use Rattle.fields.proofs.records.code_at.Goals as goal

pub returns : goal.returns
unfolding code
returns c = search rules
