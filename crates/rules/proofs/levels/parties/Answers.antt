-- `levels::parties` meets its contract: the machine's count of ones is the definition's own. Assumes nothing.
use mathlib.Core.Path.{refl}
use Rattle.rules.specs.Level.{parties}
use Rattle.rules.proofs.levels.parties.Goals as goal

pub returns : goal.returns
unfolding parties
returns c = refl
