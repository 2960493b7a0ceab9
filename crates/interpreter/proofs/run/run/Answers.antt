-- `run` meets its contract: each step is a turn, and what was reached so far goes on with it (`stride`). Assumes nothing.
use Rattle.interpreter.proofs.Looped.{outset, startable, stride, falls}
use Rattle.interpreter.proofs.run.run.Goals as goal

pub loop-ending-init : goal.loop-ending-init
loop-ending-init c = outset c.requires

pub step-ending-requires : goal.step-ending-requires
step-ending-requires c = startable c.loop-ending.invariant c.loop-ending-test.true

pub loop-ending-preserved : goal.loop-ending-preserved
loop-ending-preserved c = stride c.loop-ending.invariant c.loop-ending-test.true c.step-ending.ensures

pub loop-ending-smaller : goal.loop-ending-smaller
loop-ending-smaller c = falls _ _ _ _ c.loop-ending-test.true c.step-ending.ensures.later

pub returns : goal.returns
returns c = c.loop-ending.invariant.over c.loop-ending-test.false
