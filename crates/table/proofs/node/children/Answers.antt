-- The cell counts the children. Assumes nothing.
use Rattle.table.specs.Cells.{cells}
use Rattle.table.proofs.Moves.{counted, few_children}
use Rattle.table.proofs.node.children.Goals as goal

pub returns : goal.returns
unfolding cells
returns c = λ used free t p h. rw c.get.ensures (counted h, few_children h)
