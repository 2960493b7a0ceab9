-- The last word leads down to the end of the children. Assumes nothing.
use Rattle.table.specs.Cells.{cells}
use Rattle.table.proofs.Moves.{to_last}
use Rattle.table.proofs.walk.last.Goals as goal

pub returns : goal.returns
unfolding cells
returns c = λ used free t p h. rw c.link.ensures (to_last h)
