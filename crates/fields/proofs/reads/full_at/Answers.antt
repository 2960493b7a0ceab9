-- `full_at` meets its contract: it is the definition. Assumes nothing.
use Rattle.rules.specs.Bytes.{full}
use borrow.Author.Rules.{rules}
use Rattle.fields.proofs.reads.full_at.Goals as goal

pub returns : goal.returns
unfolding full
returns c = search rules
