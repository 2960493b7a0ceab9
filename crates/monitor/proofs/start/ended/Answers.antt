-- The two arms of `outcomeOf`; the steps made fit 32 bits. Assumes nothing.
use borrow.Author.Tests.{eq-eqb, ne_eqb}
use Rattle.monitor.specs.Starting.{outcome_of}
use Rattle.monitor.proofs.start.ended.Goals as goal

pub returns-then-a-eq-FINISHED : goal.returns-then-a-eq-FINISHED
unfolding outcome_of
returns-then-a-eq-FINISHED c = rw (eq-eqb _ 255 c.if-a-eq-FINISHED.true)

pub returns : goal.returns
unfolding outcome_of
returns c = rw (ne_eqb _ 255 c.if-a-eq-FINISHED.false)
