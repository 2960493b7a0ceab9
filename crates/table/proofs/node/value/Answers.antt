-- The value word of the cursor's cell is that of its label. Assumes nothing.
use mathlib.Core.Path.{sym, ap, ◌∙◌}
use Rattle.rules.specs.Number.{signed}
use Rattle.table.specs.Cells.{cells}
use Rattle.table.proofs.Moves.{labelled}
use Rattle.table.proofs.node.value.Goals as goal

pub returns : goal.returns
unfolding cells
returns c = λ used free t p h. ap (λ l. l.value) (labelled h) ∙ ap signed (sym c.get.ensures)
