-- `expression_fits` meets its contract: the tests in order. Assumes nothing.
use mathlib.Core.Path.{sym, ◌∙◌}
use borrow.Author.Tests.{le-leb, lt-leb}
use Rattle.fields.specs.Fits.{expression_fits}
use Rattle.job.proofs.spare.expression_fits.Goals as goal

pub returns-then-operator-gt-MAX_OPERATOR : goal.returns-then-operator-gt-MAX_OPERATOR
unfolding expression_fits
returns-then-operator-gt-MAX_OPERATOR c = rw (lt-leb _ 5 c.if-operator-gt-MAX_OPERATOR.true)

pub returns-then-not-operand_fits : goal.returns-then-not-operand_fits
unfolding expression_fits
returns-then-not-operand_fits c = rw (le-leb _ 5 c.if-operator-gt-MAX_OPERATOR.false, ← c.byte_at.ensures.0, sym c.operand_fits.ensures ∙ c.if-not-operand_fits.true)

pub returns : goal.returns
unfolding expression_fits
returns c = rw (le-leb _ 5 c.if-operator-gt-MAX_OPERATOR.false, ← c.byte_at.ensures.0, sym c.operand_fits.ensures ∙ c.if-not-operand_fits.false) c.right_fits.ensures
