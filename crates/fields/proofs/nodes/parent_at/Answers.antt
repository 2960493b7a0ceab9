-- `parent_at` meets its contract: it is the definition. Assumes nothing.
use Rattle.rules.specs.Check.{parent}
use Rattle.fields.proofs.nodes.parent_at.Goals as goal

pub returns : goal.returns
unfolding parent
returns c = c.half_at.ensures
