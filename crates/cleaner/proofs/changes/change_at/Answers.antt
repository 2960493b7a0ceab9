-- `change_at` meets its contract: the spot, and the byte there. Assumes nothing.
use native.Mathlib.Numerals.{add-one}
use Rattle.rules.specs.Clean.{change_at}
use Rattle.cleaner.specs.Cleaner.{found}
use Rattle.cleaner.proofs.changes.change_at.Goals as goal

pub returns : goal.returns
unfolding found change_at
returns c = rw (c.spot_of.ensures, add-one)
