-- `put` meets its contract: two bytes of the parent, and ten that are copied. Assumes nothing.
use mathlib.Core.Path.{◌∙◌}
use native.Mathlib.Omega.{arith}
use lib.ListN.{set, length-set}
use Rattle.arranger.proofs.Putting.{is_put}
use Rattle.arranger.proofs.arranging.put.Goals as goal

pub bounds-job-to-2 : goal.bounds-job-to-2
bounds-job-to-2 c = rw length-set (omega (arith, c.requires.0))

pub copy-requires : goal.copy-requires
copy-requires c = let q = c.requires in (rw (length-set, length-set) (omega (arith, q.0)), omega (arith, q.1))

pub shape_of-job : goal.shape_of-job
shape_of-job c = let a = c.args in c.copy.ensures.long ∙ length-set (set a.job.now _ _) _ _ ∙ length-set a.job.now _ _

pub returns : goal.returns
returns c = is_put _ _ _ _ _ _ _ c.requires.0 (rw c.to_le_bytes.ensures at c.copy.ensures)
