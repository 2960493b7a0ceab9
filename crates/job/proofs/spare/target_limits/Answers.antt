-- `target_limits` meets its contract: the list of the rules, row by row, is one list or the other. Assumes nothing.
use mathlib.Core.Path.{refl}
use Rattle.rules.specs.Script.{rows}
use Rattle.fields.specs.Fits.{target_limit}
use Rattle.job.proofs.spare.target_limits.Goals as goal
use Rattle.job.proofs.spare.target_limits.Goals.{then-sets, else-sets}

pub returns : goal.returns
unfolding rows target_limit
returns c = elim c.if-sets.branch [ then-sets w ↦ rw (w.if-sets.true, w.readers-is) refl | else-sets w ↦ rw (w.if-sets.false, w.readers-is) refl ]
