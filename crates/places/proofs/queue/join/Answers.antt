-- `queue::join` meets its contract: the first free place is the one behind the last. Assumes nothing.
use mathlib.Core.Path.{refl}
use Rattle.places.proofs.Orders.{whole_joined, joined}
use Rattle.places.proofs.queue.join.Goals as goal

pub returns : goal.returns
returns c = (whole_joined _ c.requires.0 c.requires.1, joined _ c.requires.0 c.requires.1, refl)
