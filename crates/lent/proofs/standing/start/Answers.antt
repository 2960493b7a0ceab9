-- The fields of the first link. Assumes nothing.
use mathlib.Core.Path.{refl}
use Rattle.rules.specs.Level.{public}
use Rattle.lent.specs.Stands.{start}
use Rattle.lent.proofs.standing.start.Goals as goal

pub returns : goal.returns
unfolding start public
returns c = refl
