-- The low 32 bits. Assumes nothing.
use mathlib.Core.Path.{refl}
use Rattle.table.specs.Cells.{word_of}
use Rattle.table.proofs.cells.word_of.Goals as goal

pub returns : goal.returns
unfolding word_of
returns c = refl
