-- The word read is the count of the cell. Assumes nothing.
use Rattle.table.specs.Cells.{cells}
use Rattle.table.proofs.cells.count_down.Goals as goal

pub returns : goal.returns
unfolding cells
returns c = rw (c.one_less.ensures, c.get-j.ensures) at c.store.ensures
