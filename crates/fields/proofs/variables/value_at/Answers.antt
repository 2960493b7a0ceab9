-- `value_at` meets its contract: it is the definition. Assumes nothing.
use mathlib.Core.Path.{◌∙◌}
use mir.Syntax.{w32}
use mir.Facts.{to_z-of_z}
use Rattle.rules.specs.Job.{variable_of}
use Rattle.fields.proofs.variables.value_at.Goals as goal

pub returns : goal.returns
unfolding variable_of
returns c = to_z-of_z {w = w32} (record { sfits = c.signed_at.type_inv }) ∙ c.signed_at.ensures
