-- `parties_at` meets its contract: it is the definition. Assumes nothing.
use Rattle.rules.specs.Job.{label_of}
use Rattle.rules.specs.Summary.{carried}
use Rattle.fields.specs.Fields.{levels_of}
use Rattle.summary.proofs.parties_at.Goals as goal

pub returns : goal.returns
unfolding carried label_of levels_of
returns c = rw (c.parties.ensures, c.join-2.ensures, c.join.ensures, c.levels_at-l.ensures)
