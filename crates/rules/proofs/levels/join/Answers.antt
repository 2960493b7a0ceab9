-- `levels::join` meets its contract: the machine's or is the union. Assumes nothing.
use mathlib.Core.Path.{refl}
use Rattle.rules.specs.Level.{join}
use Rattle.rules.proofs.levels.join.Goals as goal

pub returns : goal.returns
unfolding join
returns c = refl
