-- `node_ok` meets its contract: what is asked of the node alone, then of it by its parent and left sibling. Assumes nothing.
use mathlib.Core.Path.{sym, ◌∙◌}
use borrow.Author.Tests.{eq-eqb, ne_eqb}
use Rattle.fields.proofs.Siblings.{rule_parts}
use Rattle.fields.proofs.nodes.node_ok.Goals as goal

pub returns-then-not-own_ok : goal.returns-then-not-own_ok
returns-then-not-own_ok c = let a = c.args in
    rw (rule_parts a.top a.job.now a.base a.i, sym c.own_ok.ensures ∙ c.if-not-own_ok.true)

pub returns-then-i-eq0 : goal.returns-then-i-eq0
returns-then-i-eq0 c = let a = c.args in
    rw (
      rule_parts a.top a.job.now a.base a.i,
      sym c.own_ok.ensures ∙ c.if-not-own_ok.false,
      eq-eqb _ _ c.if-i-eq0.true,
    )

pub returns : goal.returns
returns c = let a = c.args in
    rw (
      rule_parts a.top a.job.now a.base a.i,
      sym c.own_ok.ensures ∙ c.if-not-own_ok.false,
      ne_eqb _ _ c.if-i-eq0.false,
      c.child_ok.ensures,
    )
