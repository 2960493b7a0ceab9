-- The forests that hang from the place are pushed, its right siblings and then its children. Assumes nothing.
use Rattle.table.specs.Cells.{cells}
use Rattle.table.proofs.Effects.{popped}
use Rattle.table.proofs.space.pop.Goals as goal

pub returns : goal.returns
unfolding cells
returns c = popped c.get-right.ensures c.get-rest.ensures c.get-first.ensures c.push-beside.ensures c.push.ensures
