-- `count` meets its contract: where the walk ends behind node number n, there are n + 1 nodes. Assumes nothing.
use native.Mathlib.Omega.{arith}
use borrow.Author.Rules.{rules}
use Rattle.table.proofs.Unique.{few_nodes}
use Rattle.print.proofs.Visiting.{number_below, goes}
use Rattle.print.proofs.preorder.count.Goals as goal

pub loop-n-init : goal.loop-n-init
loop-n-init c = (search rules, search rules, c.first-v.ensures.stands _ _)

pub returns-in_default-clause-by_index : goal.returns-in_default-clause-by_index
returns-in_default-clause-by_index c = λ used free x t p h. omega (arith, c.in_default.ensures.by_index used free c.loop-n.n t (c.loop-n.invariant.2 used free x t p h))

pub loop-n-preserved : goal.loop-n-preserved
loop-n-preserved c = (
  search rules,
  search rules,
  λ used free x t p h. goes (c.in-Some.ensures.by_index used free c.loop-n.n t (c.loop-n.invariant.2 used free x t p h)),
)

pub returns-clause-by_index : goal.returns-clause-by_index
returns-clause-by_index c = λ used free x t p h. absurd (omega (arith, c.loop-n-test.false, few_nodes h, number_below (c.loop-n.invariant.2 used free x t p h)))
