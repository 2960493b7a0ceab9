-- `digit` meets its contract, below ten and from there on. Assumes nothing.
use borrow.Author.Tests.{lt-ltb, le-ltb}
use Rattle.frames.specs.Answers.{digit}
use Rattle.frames.proofs.outcome.digit.Goals as goal

pub returns-then-n-lt10 : goal.returns-then-n-lt10
unfolding digit
returns-then-n-lt10 c = rw (lt-ltb _ _ c.if-n-lt10.true)

pub returns-else-n-lt10 : goal.returns-else-n-lt10
unfolding digit
returns-else-n-lt10 c = rw (le-ltb _ _ c.if-n-lt10.false)
