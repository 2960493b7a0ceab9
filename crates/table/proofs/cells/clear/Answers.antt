-- Three stores to one cell. Assumes nothing.
use native.Mathlib.Omega.{arith}
use Rattle.table.specs.Cells.{gone}
use Rattle.table.specs.Steps.{with_word}
use Rattle.table.proofs.Words.{twice, fits}
use Rattle.table.proofs.cells.clear.Goals as goal

pub returns : goal.returns
returns c = twice (with_word 5 0)
    (twice (with_word 9 gone) (rw (c.word_of.ensures, fits 65535 (omega arith)) at c.store.ensures)
    (rw (c.word_of-2.ensures, fits 65535 (omega arith)) at c.store-2.ensures)) c.store-3.ensures
