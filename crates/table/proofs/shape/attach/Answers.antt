-- The stores in their order: the new cell, the link to it, the link back to it, the count. Assumes nothing.
use mathlib.Core.Path.{ap, ◌∙◌}
use Rattle.table.specs.Cells.{word_of, side_of}
use Rattle.table.proofs.Effects.{attached}
use Rattle.table.proofs.Words.{link_word}
use native.Mathlib.Omega.{arith}
use Rattle.table.proofs.shape.attach.Goals as goal

pub count_up-requires : goal.count_up-requires
count_up-requires c = record {
  long =
      omega
      (arith, c.requires.0.long, c.clear.auto.words, c.fill.auto.words, c.store.auto.words, c.lead_back.auto.words);
  few = c.requires.0.few;
  inside = omega (arith, c.requires.1.0, c.requires.1.1);
}

pub returns : goal.returns
returns c = let whole = c.fill.ensures in
    attached (side_of c.args.side) whole.byte_levels c.requires.0.few c.requires.0.inside c.requires.1.0 c.requires.1.1
    (rw c.word_on-word.ensures.0 at c.get-old.ensures ∙ link_word _ _ _) (c.word_of-2.ensures ∙ ap word_of c.left_on-prev.ensures)
    c.clear.ensures (rw c.word_of.ensures at whole.put) (rw c.word_of-3.ensures at (rw c.word_on-word.ensures.0 at c.store.ensures))
    (rw c.word_of-4.ensures at c.lead_back.ensures) c.count_up.ensures
