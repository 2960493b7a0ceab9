-- The level has a word of the cursor's cell, and is a byte. Assumes nothing.
use mathlib.Core.Path.{ap}
use native.Mathlib.Omega.{arith}
use Rattle.table.specs.Cells.{cells}
use Rattle.table.proofs.Moves.{labelled, levels}
use Rattle.table.proofs.node.existence.Goals as goal

pub returns : goal.returns
unfolding cells
returns c = λ used free t p h. omega (arith, ap (λ l. l.existence) (labelled h), (levels h).existence, c.level.ensures)
