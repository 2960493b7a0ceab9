-- One test. Assumes nothing.
use mathlib.Core.Path.{refl}
use Rattle.lent.specs.Stands.{closes}
use Rattle.lent.proofs.standing.closes.Goals as goal

pub returns : goal.returns
unfolding closes
returns c = refl
