-- `double_at` meets its contract: it is the definition. Assumes nothing.
use Rattle.fields.specs.Fields.{double}
use borrow.Author.Rules.{rules}
use Rattle.fields.proofs.reads.double_at.Goals as goal

pub returns : goal.returns
unfolding double
returns c = search rules
