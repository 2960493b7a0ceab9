-- `pool::empty` meets its contract: no place has a run. Assumes nothing.
use Rattle.turns.proofs.Housing.{nobody_yet}
use Rattle.turns.proofs.pool.empty.Goals as goal

pub returns : goal.returns
returns c = nobody_yet _ _ c.none.ensures.0 c.none.ensures.1 c.blank-place.ensures
