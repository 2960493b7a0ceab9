-- The field read is the record's. Assumes nothing.
use mathlib.Core.Path.{ap}
use Rattle.interpreter.proofs.step.target.Goals as goal

pub returns : goal.returns
returns c = ap (λ f. f.target) c.fields_at-f.ensures
