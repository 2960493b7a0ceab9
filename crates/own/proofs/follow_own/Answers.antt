-- `follow_own` meets its contract, which is that of `own`. Assumes nothing.
use Rattle.own.proofs.follow_own.Goals as goal

pub returns : goal.returns
returns c = c.own.ensures
