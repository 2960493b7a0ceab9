-- `variable_fits` meets its contract: the two tests. Assumes nothing.
use Rattle.fields.proofs.Fits.{variable_rest}
use Rattle.fields.proofs.variables.variable_fits.Goals as goal

pub returns : goal.returns
returns c = rw (variable_rest _ _, c.rest_at.ensures, c.variable_ok.ensures)
