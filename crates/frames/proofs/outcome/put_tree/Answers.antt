-- `put_tree` meets its contract: each turn puts the node that the walk stands at; the k-th is at most k steps below the root. Assumes nothing.
use Rattle.std.proofs.Common.{arith, rules, refl}
use Rattle.table.proofs.Unique.{few_nodes}
use Rattle.print.proofs.Visiting.{number_below, goes}
use Rattle.frames.specs.Pieces.{none}
use Rattle.frames.proofs.Walking.{rows, visited, over}
use Rattle.frames.proofs.outcome.put_tree.Goals as goal

pub loop-k-init : goal.loop-k-init
unfolding rows
loop-k-init c = (search rules, search rules, λ used free x t p h. (c.first-v.ensures.stands _ _ used free x t p h, record { same = refl; puts = none }))

pub returns-in_default : goal.returns-in_default
returns-in_default c = λ used free x t p h.
    let w = c.loop-k.invariant.2 used free x t p h in
    over t (c.in_default.ensures.by_index used free _ t w.0) (visited w.0 w.1 (c.put_node.ensures used free t w.0.place w.0.holds))

pub loop-k-preserved : goal.loop-k-preserved
loop-k-preserved c = (
  search rules,
  search rules,
  λ used free x t p h.
      let w = c.loop-k.invariant.2 used free x t p h in
      (goes (c.in-Some.ensures.by_index used free _ t w.0), visited w.0 w.1 (c.put_node.ensures used free t w.0.place w.0.holds)),
)

pub returns : goal.returns
returns c = λ used free x t p h. absurd (omega (arith, c.loop-k-test.false, few_nodes h, number_below (c.loop-k.invariant.2 used free x t p h).0))
