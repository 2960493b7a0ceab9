-- The number on the side is no place, a place that may not be touched, or one whose node goes: each is an outcome of the rules' removal. Assumes nothing.
use Rattle.actions.proofs.Inserted.{remove_absent, remove_refused, removed}
use Rattle.table.specs.Cells.{side_of}
use Rattle.actions.proofs.nodes.remove.Goals as goal

pub returns-then-old-places : goal.returns-then-old-places
returns-then-old-places c = λ l v b vars.
    remove_absent _ c.args.pc (side_of c.args.side) c.requires.1.0.inside c.beside-old.ensures c.if-old-places.true c.halt.ensures

pub returns-then-not-may_touch : goal.returns-then-not-may_touch
returns-then-not-may_touch c = λ l v b vars.
    remove_refused _ c.args.pc (side_of c.args.side) c.requires.1.0.inside c.beside-old.ensures c.position.ensures c.if-old-places.false
    c.may_touch.ensures c.if-not-may_touch.true c.halt-then-not-may_touch.ensures

pub returns : goal.returns
returns c = λ l v b vars.
    removed _ c.args.pc (side_of c.args.side) c.requires.1.0.inside c.beside-old.ensures c.position.ensures c.if-old-places.false
    c.may_touch.ensures c.if-not-may_touch.false c.any-remembered.ensures c.remove-free.ensures.by_index c.remove-free.ensures.behind c.requires.1.0.few
    c.onward.ensures
