-- Three stores to one cell. Assumes nothing.
use native.Mathlib.Omega.{arith}
use Rattle.table.specs.Cells.{gone, word_of}
use Rattle.table.specs.Steps.{with_word}
use Rattle.table.proofs.Words.{twice, fits}
use Rattle.lent.proofs.standing.spare.Goals as goal

pub returns : goal.returns
returns c = twice (with_word 2 (word_of c.args.free))
    (twice (with_word 1 gone) (rw (c.word_of.ensures, fits 65535 (omega arith)) at c.store.ensures)
    (rw (c.word_of-2.ensures, fits 65535 (omega arith)) at c.store-2.ensures)) (rw c.word_of-3.ensures at c.store-3.ensures)
