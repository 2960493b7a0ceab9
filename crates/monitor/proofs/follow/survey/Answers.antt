-- The places that a link can lead to are asked for a tree. Assumes nothing.
use Rattle.monitor.proofs.Taken.{asked_all}
use Rattle.monitor.proofs.follow.survey.Goals as goal

pub returns : goal.returns
returns c = asked_all c.min-n.ensures c.held.ensures.decided c.held.ensures.marked
