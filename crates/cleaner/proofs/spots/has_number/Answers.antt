-- `has_number` meets its contract: it is the definition. Assumes nothing.
use mathlib.Core.Path.{refl}
use Rattle.rules.specs.Check.{has_number}
use Rattle.cleaner.proofs.spots.has_number.Goals as goal

pub returns : goal.returns
unfolding has_number
returns c = refl
