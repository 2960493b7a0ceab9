-- `operand_ok` meets its contract: the tests in order. Assumes nothing.
use mathlib.Core.Path.{sym}
use mathlib.Core.Bool.{and-true}
use borrow.Author.Tests.{ne_eqb}
use Rattle.rules.specs.Check.{operand_rule}
use Rattle.fields.proofs.records.operand_ok.Goals as goal

pub returns-then-kind-eq-VARIABLE : goal.returns-then-kind-eq-VARIABLE
unfolding operand_rule
returns-then-kind-eq-VARIABLE c = rw (c.full_at.ensures, c.if-kind-eq-VARIABLE.true)

pub returns-else-kind-eq-VARIABLE : goal.returns-else-kind-eq-VARIABLE
unfolding operand_rule
returns-else-kind-eq-VARIABLE c = rw (ne_eqb _ 1 c.if-kind-eq-VARIABLE.false) (sym (and-true _))
