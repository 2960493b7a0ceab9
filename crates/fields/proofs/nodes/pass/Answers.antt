-- `pass` meets its contract: a store at the parent, which comes before the node. Assumes nothing.
use native.Mathlib.Omega.{arith}
use Rattle.fields.proofs.Siblings.{parent_below, lasts_root, lasts_child}
use Rattle.fields.proofs.nodes.pass.Goals as goal

pub bounds-last-p : goal.bounds-last-p
bounds-last-p c = let q = c.requires in
    let h = parent_below _ _ _ q.0 _ q.1 c.if-i-ne0.true in omega (arith, c.parent_at-p.ensures.0, q.0.few, q.1.size)

pub returns-then-i-ne0 : goal.returns-then-i-ne0
returns-then-i-ne0 c = let q = c.requires in rw c.parent_at-p.ensures.0 (lasts_child _ _ _ q.0 _ q.1 c.if-i-ne0.true)

pub returns-else-i-ne0 : goal.returns-else-i-ne0
returns-else-i-ne0 c = let q = c.requires in lasts_root _ _ _ q.0 _ q.1 c.if-i-ne0.false
