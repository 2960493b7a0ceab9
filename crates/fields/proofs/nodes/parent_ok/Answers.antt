-- `parent_ok` meets its contract: the tests in order. Assumes nothing.
use borrow.Author.Tests.{eq-eqb, ne_eqb}
use Rattle.rules.specs.Check.{parent_rule}
use Rattle.fields.proofs.nodes.parent_ok.Goals as goal

pub returns-then-i-eq0 : goal.returns-then-i-eq0
unfolding parent_rule
returns-then-i-eq0 c = simp (eq-eqb _ _ c.if-i-eq0.true, c.parent_at-p.ensures.0)

pub returns-else-i-eq0 : goal.returns-else-i-eq0
unfolding parent_rule
returns-else-i-eq0 c = simp (ne_eqb _ _ c.if-i-eq0.false, c.parent_at-p.ensures.0)
