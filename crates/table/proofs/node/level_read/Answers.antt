-- The word of the kind is that of the content or that of the structure level, which is a byte. Assumes nothing.
use mathlib.Core.Path.{ap}
use native.Mathlib.Omega.{arith}
use Rattle.table.specs.Cells.{cells}
use Rattle.table.proofs.Moves.{labelled, levels}
use Rattle.table.proofs.node.level_read.Goals as goal

pub returns : goal.returns
unfolding cells
returns c = λ used free t p h. (
  λ e. rw (c.level.ensures, e) (omega (arith, ap (λ l. l.content) (labelled h), (levels h).content)),
  λ e. rw (c.level.ensures, e) (omega (arith, ap (λ l. l.structure) (labelled h), (levels h).structure)),
)
