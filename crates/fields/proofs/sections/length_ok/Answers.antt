-- `length_ok` meets its contract: it is the definition. Assumes nothing.
use Rattle.rules.specs.Check.{length_rule}
use mathlib.Core.Path.{refl}
use Rattle.fields.proofs.sections.length_ok.Goals as goal

pub returns : goal.returns
unfolding length_rule
returns c = refl
