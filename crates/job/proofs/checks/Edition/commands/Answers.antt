-- `commands` meets its contract: edition by edition. Assumes nothing.
use native.Mathlib.Omega.{arith}
use Rattle.rules.specs.Check.{first, unordered, ordered, today}
use Rattle.job.specs.Answer.{edition_of}
use Rattle.job.proofs.checks.Edition.commands.Goals as goal

pub returns-in-First : goal.returns-in-First
unfolding edition_of first
returns-in-First c = (rw c.in-First.is, omega arith)

pub returns-in-Unordered : goal.returns-in-Unordered
unfolding edition_of unordered
returns-in-Unordered c = (rw c.in-Unordered.is, omega arith)

pub returns-in-Today : goal.returns-in-Today
unfolding edition_of today ordered
returns-in-Today c = (rw c.in-Today.is, omega arith)
