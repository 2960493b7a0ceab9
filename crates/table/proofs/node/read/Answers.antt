-- The word of the kind is that of the value or that of the children. Assumes nothing.
use mathlib.Core.Path.{ap}
use Rattle.table.specs.Cells.{cells}
use Rattle.table.proofs.Moves.{labelled, counted, few_children}
use Rattle.table.proofs.node.read.Goals as goal

pub returns : goal.returns
unfolding cells
returns c = λ used free t p h.
    (λ e. rw (c.get.ensures, e) (ap (λ l. l.value) (labelled h)), λ e. rw (c.get.ensures, e) (counted h, few_children h))
