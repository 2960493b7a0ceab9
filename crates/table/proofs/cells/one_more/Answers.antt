-- The sum wraps as the definition has it. Assumes nothing.
use mathlib.Core.Path.{refl}
use Rattle.table.specs.Cells.{word_of}
use Rattle.table.specs.Steps.{one_more}
use Rattle.table.proofs.cells.one_more.Goals as goal

pub returns : goal.returns
unfolding one_more word_of
returns c = refl
