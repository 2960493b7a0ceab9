-- `half_at` meets its contract: it is the definition. Assumes nothing.
use Rattle.rules.specs.Bytes.{half}
use borrow.Author.Rules.{rules}
use Rattle.fields.proofs.reads.half_at.Goals as goal

pub returns : goal.returns
unfolding half
returns c = search rules
