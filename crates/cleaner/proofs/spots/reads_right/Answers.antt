-- `reads_right` meets its contract: it is the definition. Assumes nothing.
use Rattle.rules.specs.Check.{reads_right}
use Rattle.fields.specs.Fields.{row_held}
use Rattle.cleaner.proofs.spots.reads_right.Goals as goal

pub returns : goal.returns
unfolding reads_right row_held
returns c = rw c.requires.1
