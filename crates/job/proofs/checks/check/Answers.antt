-- `check` meets its contract: the edition of today. Assumes nothing.
use Rattle.job.specs.Answer.{edition_of}
use Rattle.job.proofs.checks.check.Goals as goal

pub returns : goal.returns
unfolding edition_of
returns c = c.check_by.ensures
