-- The stores in their order: the link past the node, the link back past it, the node's own links, the count. Assumes nothing.
use native.Mathlib.Omega.{arith}
use Rattle.table.specs.Cells.{cells, side_of}
use Rattle.table.proofs.Effects.{detached}
use Rattle.table.proofs.Words.{fits}
use Rattle.table.proofs.shape.detach.Goals as goal

pub count_down-requires : goal.count_down-requires
count_down-requires c = record {
  long =
      omega
      (arith, c.requires.0.long, c.store.auto.words, c.lead_back.auto.words, c.store-2.auto.words, c.store-3.auto.words);
  few = c.requires.0.few;
  inside = omega (arith, c.requires.1.0, c.requires.1.1);
}

pub returns : goal.returns
unfolding cells
returns c = detached (side_of c.args.side) c.get-next.ensures c.get-prev.ensures (rw c.word_on.ensures.0 at c.store.ensures) c.lead_back.ensures
    (rw (c.word_of.ensures, fits 65535 (omega arith)) at c.store-2.ensures) (rw c.word_of-2.ensures at c.store-3.ensures)
    c.count_down.ensures
