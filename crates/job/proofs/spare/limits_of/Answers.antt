-- `limits_of` meets its contract: it is the definition. Assumes nothing.
use mathlib.Core.Path.{refl}
use Rattle.fields.specs.Fits.{limits_of}
use Rattle.job.proofs.spare.limits_of.Goals as goal

pub returns : goal.returns
unfolding limits_of
returns c = refl
