-- `expression_ok` meets its contract: the tests in order. Assumes nothing.
use mathlib.Core.Path.{sym, ◌∙◌}
use borrow.Author.Tests.{le-leb, lt-leb, ne_eqb}
use Rattle.rules.specs.Check.{expression_rule}
use Rattle.fields.proofs.records.expression_ok.Goals as goal

pub returns-then-operator-gt-MAX_OPERATOR : goal.returns-then-operator-gt-MAX_OPERATOR
unfolding expression_rule
returns-then-operator-gt-MAX_OPERATOR c = rw (lt-leb _ 5 c.if-operator-gt-MAX_OPERATOR.true)

pub returns-then-not-operand_ok : goal.returns-then-not-operand_ok
unfolding expression_rule
returns-then-not-operand_ok c = rw (le-leb _ 5 c.if-operator-gt-MAX_OPERATOR.false, sym c.operand_ok.ensures ∙ c.if-not-operand_ok.true)

pub returns-then-operator-eq-ALONE : goal.returns-then-operator-eq-ALONE
unfolding expression_rule
returns-then-operator-eq-ALONE c = rw (c.if-operator-eq-ALONE.true, sym c.operand_ok.ensures ∙ c.if-not-operand_ok.false)

pub returns : goal.returns
unfolding expression_rule
returns c = rw (
  le-leb _ 5 c.if-operator-gt-MAX_OPERATOR.false,
  sym c.operand_ok.ensures ∙ c.if-not-operand_ok.false,
  ne_eqb _ 0 c.if-operator-eq-ALONE.false,
  c.operand_ok-2.ensures,
)
