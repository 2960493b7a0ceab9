-- `first_fault` meets its contract: each node passed is right, and is its parent's last child so far. Assumes nothing.
use mathlib.Core.Path.{◌≡◌, sym, ◌∙◌}
use native.Mathlib.Omega.{arith}
use native.Mathlib.Numerals.{add-one}
use Rattle.rules.proofs.Search.{scan_start, scan_next, scan_stop, scan_end}
use Rattle.fields.specs.Siblings.{Rooted}
use Rattle.fields.proofs.Siblings.{lasts_start}
use borrow.Author.Rules.{rules}
use Rattle.fields.proofs.nodes.first_fault.Goals as goal
use Rattle.fields.proofs.nodes.first_fault.Goals.{In-loop-i}

pub loop-i-init : goal.loop-i-init
loop-i-init c = (scan_start _ _, lasts_start _ _)

-- each of the nodes is rooted
rooted : (c : In-loop-i) → let a = c.args in Rooted a.job.now a.base c.loop-i.i
rooted c = let q = c.requires in record { inside = omega (arith, q.inside); few = omega (arith, q.few); parents = λ k l. q.parents k (omega arith) }

pub node_ok-requires : goal.node_ok-requires
node_ok-requires c = (rooted (goal.at.node_ok-requires c).In-loop-i, c.loop-i.invariant.1)

pub returns-then-not-node_ok : goal.returns-then-not-node_ok
returns-then-not-node_ok c = scan_stop _ _ c.loop-i.invariant.0 (search rules) (sym c.node_ok.ensures ∙ c.if-not-node_ok.true)

pub pass-requires : goal.pass-requires
pass-requires c = (rooted (goal.at.pass-requires c).In-loop-i, c.loop-i.invariant.1)

pub loop-i-preserved : goal.loop-i-preserved
loop-i-preserved c = (
  scan_next _ _ c.loop-i.invariant.0 (search rules) (sym c.node_ok.ensures ∙ c.if-not-node_ok.false),
  rw add-one c.pass.ensures,
)

pub returns : goal.returns
returns c = let e : c.args.count ≡ c.loop-i.i = omega arith in e ∙ scan_end _ _ c.loop-i.invariant.0 c.loop-i-test.false
