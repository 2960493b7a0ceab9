-- `list_set` meets its contract: the mark joins one of its binary digits. Assumes nothing.
use mathlib.Core.Path.{ap, ◌∙◌}
use Rattle.rules.specs.Level.{join}
use Rattle.rules.specs.Script.{list_set}
use Rattle.actions.proofs.Digits.{half_level}
use Rattle.actions.proofs.sets.list_set.Goals as goal

pub returns : goal.returns
unfolding list_set
returns c = c.join.ensures ∙ ap (join _) (half_level _ c.requires)
