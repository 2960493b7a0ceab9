-- `own_ok` meets its contract: the tests in order. Assumes nothing.
use mathlib.Core.Path.{sym, ◌∙◌}
use borrow.Author.Tests.{eq-eqb, ne_eqb}
use Rattle.rules.specs.Level.{public}
use Rattle.fields.specs.Fields.{levels_of}
use Rattle.fields.specs.Siblings.{own_rule}
use Rattle.fields.proofs.nodes.own_ok.Goals as goal

pub returns-then-not-label_ok : goal.returns-then-not-label_ok
unfolding own_rule
returns-then-not-label_ok c = rw (sym c.label_ok.ensures ∙ c.if-not-label_ok.true)

pub returns-then-i-eq0 : goal.returns-then-i-eq0
unfolding own_rule levels_of public
returns-then-i-eq0 c = rw (
  sym c.label_ok.ensures ∙ c.if-not-label_ok.false,
  eq-eqb _ _ c.if-i-eq0.true,
  c.not_above.ensures,
  c.levels_at.ensures,
)

pub returns : goal.returns
unfolding own_rule
returns c = rw (sym c.label_ok.ensures ∙ c.if-not-label_ok.false, ne_eqb _ _ c.if-i-eq0.false)
