-- `fields_at` meets its contract: it is the definition. Assumes nothing.
use Rattle.fields.specs.Fields.{fields_of}
use Rattle.fields.proofs.records.fields_at.Goals as goal

pub returns : goal.returns
unfolding fields_of
returns c = rw (c.full_at-2.ensures, c.full_at.ensures)
