-- `is_dirty` meets its contract: zero first, then whether it is read. Assumes nothing.
use mathlib.Core.Path.{sym, ap, ◌∙◌}
use mathlib.Core.Bool.{not}
use Rattle.cleaner.proofs.Located.{dirty_zero, dirty_other}
use Rattle.cleaner.proofs.spots.is_dirty.Goals as goal

pub returns-then-job-at-eq0 : goal.returns-then-job-at-eq0
returns-then-job-at-eq0 c = sym (dirty_zero _ _ c.if-job-at-eq0.true)

pub returns : goal.returns
returns c = ap not c.is_read.ensures ∙ sym (dirty_other _ _ c.if-job-at-eq0.false)
