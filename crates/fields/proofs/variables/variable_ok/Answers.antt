-- `variable_ok` meets its contract: it is the definition. Assumes nothing.
use Rattle.rules.specs.Job.{variable_of}
use Rattle.fields.specs.Fits.{variable_in}
use Rattle.fields.proofs.variables.variable_ok.Goals as goal

pub returns : goal.returns
unfolding variable_in variable_of
returns c = rw c.level_at.ensures
