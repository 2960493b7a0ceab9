-- `is_whole` meets its contract: the tests in order. Assumes nothing.
use borrow.Author.Tests.{le-leb, lt-leb}
use Rattle.rules.specs.Check.{whole}
use Rattle.fields.proofs.sections.is_whole.Goals as goal

pub returns-then-from-to : goal.returns-then-from-to
unfolding whole
returns-then-from-to c = simp (le-leb _ _ c.if-from-to.true)

pub returns-else-from-to : goal.returns-else-from-to
unfolding whole
returns-else-from-to c = simp (lt-leb _ _ c.if-from-to.false)
