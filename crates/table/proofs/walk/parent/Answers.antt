-- The parent word leads one step up. Assumes nothing.
use Rattle.table.specs.Cells.{cells}
use Rattle.table.proofs.Moves.{to_parent}
use Rattle.table.proofs.walk.parent.Goals as goal

pub returns : goal.returns
unfolding cells
returns c = λ used free t p h. rw c.link.ensures (to_parent h)
