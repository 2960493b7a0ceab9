-- Three stores to one cell, and its label. Assumes nothing.
use Rattle.table.proofs.Words.{filled}
use Rattle.table.proofs.cells.fill.Goals as goal

pub returns : goal.returns
returns c = let s = c.set_label.ensures in
    record { put = filled c.store.ensures c.store-2.ensures c.store-3.ensures s.put; byte_levels = s.byte_levels }
