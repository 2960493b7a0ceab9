-- The stores in their order: the cell, and where there is a parent the link to it, the link back to it and the count. Assumes nothing.
use native.Mathlib.Omega.{arith}
use Rattle.table.specs.Cells.{cells}
use Rattle.table.specs.Steps.{under, alone}
use Rattle.table.proofs.Words.{fits}
use Rattle.table.proofs.records.place.Goals as goal

pub returns-then-p-x : goal.returns-then-p-x
unfolding cells
returns-then-p-x c = let lt = c.if-p-x.true in
    let whole = c.fill.ensures in
    let own = fits c.args.x (omega (arith, c.requires.inside, c.requires.few)) in
    under _ _ _ whole.byte_levels lt
    (rw (c.get-old.ensures, c.word_of.ensures, fits c.args.p (omega (arith, c.requires.inside, c.requires.few)), c.word_of-then-p-x.ensures, fits 65535 (omega arith)) at whole.put)
    (rw (c.word_of-then-p-x-2.ensures, own) at c.store.ensures) (rw (c.get-old.ensures, c.word_of-then-p-x-3.ensures, own) at c.lead_back.ensures)
    c.count_up.ensures

pub returns-else-p-x : goal.returns-else-p-x
returns-else-p-x c = let whole = c.fill-else-p-x.ensures in
    alone whole.byte_levels c.if-p-x.false (rw (c.word_of-none.ensures, fits 65535 (omega arith)) at whole.put)
