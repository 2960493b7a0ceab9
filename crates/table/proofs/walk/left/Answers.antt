-- The left word leads one step back. Assumes nothing.
use Rattle.table.specs.Cells.{cells}
use Rattle.table.proofs.Moves.{to_left}
use Rattle.table.proofs.walk.left.Goals as goal

pub returns : goal.returns
unfolding cells
returns c = λ used free t p h. rw c.link.ensures (to_left h)
