-- `has_order` meets its contract: edition by edition. Assumes nothing.
use Rattle.rules.specs.Check.{first, unordered, ordered, today}
use Rattle.job.specs.Answer.{edition_of}
use Rattle.job.proofs.checks.Edition.has_order.Goals as goal

pub returns-in-First : goal.returns-in-First
unfolding edition_of first
returns-in-First c = rw c.in-First.is

pub returns-in-Unordered : goal.returns-in-Unordered
unfolding edition_of unordered
returns-in-Unordered c = rw c.in-Unordered.is

pub returns-in-Today : goal.returns-in-Today
unfolding edition_of today ordered
returns-in-Today c = rw c.in-Today.is
