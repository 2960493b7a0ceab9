-- `counts_ok` meets its contract: it is the definition. Assumes nothing.
use Rattle.rules.specs.Check.{count_rule}
use mathlib.Core.Path.{refl}
use Rattle.fields.proofs.sections.counts_ok.Goals as goal

pub returns : goal.returns
unfolding count_rule
returns c = refl
