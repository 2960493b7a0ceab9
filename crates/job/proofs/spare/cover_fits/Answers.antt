-- `cover_fits` meets its contract: it is the definition. Assumes nothing.
use Rattle.fields.specs.Fits.{cover_fits}
use Rattle.job.proofs.spare.cover_fits.Goals as goal

pub returns : goal.returns
unfolding cover_fits
returns c = rw (← c.full_at.ensures, ← c.byte_at.ensures.0, ← c.half_at.ensures.0, ← c.double_at.ensures)
