-- `right_fits` meets its contract: the tests in order. Assumes nothing.
use borrow.Author.Tests.{eq-eqb, ne_eqb}
use Rattle.fields.specs.Fits.{right_fits}
use Rattle.job.proofs.spare.right_fits.Goals as goal

pub returns-then-kind-ne0 : goal.returns-then-kind-ne0
unfolding right_fits
returns-then-kind-ne0 c = rw (c.if-operator-eq-ALONE.true, ← c.kind_word-kind.ensures, ne_eqb _ 0 c.if-kind-ne0.true)

pub returns-then-operator-eq-ALONE : goal.returns-then-operator-eq-ALONE
unfolding right_fits
returns-then-operator-eq-ALONE c = rw (c.if-operator-eq-ALONE.true, ← c.kind_word-kind.ensures, eq-eqb _ 0 c.if-kind-ne0.false, c.full_at.ensures)

pub returns : goal.returns
unfolding right_fits
returns c = rw (ne_eqb _ 0 c.if-operator-eq-ALONE.false, ← c.kind_word-kind.ensures) c.operand_fits.ensures
