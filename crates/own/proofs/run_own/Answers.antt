-- `run_own` meets its contract, which is that of `own`. Assumes nothing.
use Rattle.own.proofs.run_own.Goals as goal

pub returns : goal.returns
returns c = c.own.ensures
