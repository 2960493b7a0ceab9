-- `content_set` meets its contract: the mark joins one of its binary digits. Assumes nothing.
use mathlib.Core.Path.{ap, ◌∙◌}
use Rattle.rules.specs.Level.{join}
use Rattle.rules.specs.Script.{content_set}
use Rattle.actions.proofs.Digits.{odd_level}
use Rattle.actions.proofs.sets.content_set.Goals as goal

pub returns : goal.returns
unfolding content_set
returns c = c.join.ensures ∙ ap (join _) (odd_level _)
