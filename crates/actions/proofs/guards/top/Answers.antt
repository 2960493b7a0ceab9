-- `monitor::guards::top` meets its contract: the lowest byte of the lower word is the lowest digit of the number, which is the innermost context.
-- Assumes nothing.
use Rattle.actions.proofs.Contexts.{held_top}
use Rattle.actions.proofs.guards.top.Goals as goal

pub returns : goal.returns
returns c = λ bs h. held_top _ bs h
