-- With a free place the node is linked in; else the tree stays. Assumes nothing.
use Rattle.table.specs.Cells.{label_new, side_of}
use Rattle.table.proofs.Adding.{added, added_none}
use Rattle.table.proofs.Behind.{then_behind}
use Rattle.table.proofs.Effects.{took_behind, attached_behind}
use Rattle.table.proofs.shape.add.Goals as goal

pub returns-then-y-places : goal.returns-then-y-places
returns-then-y-places c = let took = c.take-got.ensures in
    let lt = c.if-y-places.true in record {
      added = λ t p h e. added h (side_of c.args.side) c.requires.1 e took {a = label_new c.args.node} lt c.attach.ensures;
      behind = then_behind (took_behind took) (attached_behind c.requires.0.inside c.requires.1 lt c.attach.ensures);
    }

pub returns-else-y-places : goal.returns-else-y-places
returns-else-y-places c = let took = c.take-got.ensures in
    record { added = λ t p h e. added_none h (side_of c.args.side) c.requires.1 e took c.if-y-places.false; behind = took_behind took }
