-- Each way does what its cell says. Assumes nothing.
use mathlib.Core.Path.{refl, ap, ◌∙◌}
use Prim.Native.Nat.{◌+◌, ◌*◌}
use native.Mathlib.Omega.{arith}
use Rattle.rules.specs.Limits.{node_size}
use Rattle.rules.specs.Write.{node_bytes}
use Rattle.lent.specs.Lent.{cell_of}
use Rattle.writer.specs.Area.{replaced, entry}
use Rattle.writer.specs.Nodes.{enter, leave, left, entered}
use Rattle.writer.proofs.nodes.turn.Goals as goal

pub node_of-requires : goal.node_of-requires
node_of-requires c = let p = c.requires in omega (arith, p.long, (p.above c.if-y-places.true).1)

pub leave-requires : goal.leave-requires
leave-requires c = (c.requires.above c.if-y-places.true).0

pub returns-then-y-places : goal.returns-then-y-places
returns-then-y-places c = left c.if-y-places.true (c.leave.ensures ∙ ap (leave c.args.s) c.node_of.ensures) refl refl

pub node_of-d-requires : goal.node_of-d-requires
node_of-d-requires c = omega (arith, c.requires.long, c.if-y-places.false)

pub parent_of-parent-requires : goal.parent_of-parent-requires
parent_of-parent-requires c = omega (arith, (c.requires.below c.if-y-places.false).0)

pub overflow_mul-s : goal.overflow_mul-s
overflow_mul-s c = omega (arith, (c.requires.below c.if-y-places.false).2)

pub overflow_add-base : goal.overflow_add-base
overflow_add-base c = omega (arith, (c.requires.below c.if-y-places.false).2)

pub put_node-requires : goal.put_node-requires
put_node-requires c = (c.requires.below c.if-y-places.false).2

pub offset_bounds-indexes-at : goal.offset_bounds-indexes-at
offset_bounds-indexes-at c = omega (arith, (c.requires.below c.if-y-places.false).0)

pub bounds-indexes-at : goal.bounds-indexes-at
bounds-indexes-at c = omega (arith, (c.requires.below c.if-y-places.false).0)

pub enter-requires : goal.enter-requires
enter-requires c = let b = c.requires.below c.if-y-places.false in (b.0, b.1)

pub returns : goal.returns
returns c = let a = c.args in
    entered c.if-y-places.false (c.enter.ensures ∙ ap (enter a.s) c.node_of-d.ensures) refl
    (c.put_node.ensures
    ∙ (λ i. replaced a.area.now (a.base + node_size * a.s.next) (node_bytes (entry (c.parent_of-parent.ensures i) (cell_of (c.node_of-d.ensures i)).label))))
