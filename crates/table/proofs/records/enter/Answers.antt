-- The parent and the label are read where the record stands. Assumes nothing.
use Rattle.rules.specs.Check.{parent, existence, content, structure}
use Rattle.rules.specs.Job.{label_of}
use Rattle.table.proofs.records.enter.Goals as goal

pub returns : goal.returns
unfolding parent label_of existence content structure
returns c = rw (c.half_at.ensures.0, c.full_at.ensures) at c.place.ensures
