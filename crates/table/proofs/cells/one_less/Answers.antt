-- The sum wraps as the definition has it. Assumes nothing.
use mathlib.Core.Path.{refl}
use Rattle.table.specs.Cells.{word_of}
use Rattle.table.specs.Steps.{one_less}
use Rattle.table.proofs.cells.one_less.Goals as goal

pub returns : goal.returns
unfolding one_less word_of
returns c = refl
