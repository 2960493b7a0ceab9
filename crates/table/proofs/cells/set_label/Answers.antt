-- Four stores to one cell. Assumes nothing.
use Rattle.table.proofs.Words.{labelled}
use Rattle.table.proofs.cells.set_label.Goals as goal

pub returns-clause-put : goal.returns-clause-put
returns-clause-put c = labelled c.args.node.value (rw c.from.ensures at c.store.ensures) c.store-2.ensures (rw c.from-2.ensures at c.store-3.ensures)
    (rw c.from-3.ensures at c.store-4.ensures)
