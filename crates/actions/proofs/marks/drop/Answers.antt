-- One store: one less. Assumes nothing.
use Rattle.actions.specs.Marks.{dropping}
use Rattle.actions.proofs.marks.drop.Goals as goal

pub returns : goal.returns
unfolding dropping
returns c = rw c.saturating_sub.ensures
