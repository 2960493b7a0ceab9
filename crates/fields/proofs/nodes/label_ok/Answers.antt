-- `label_ok` meets its contract: it is the definition. Assumes nothing.
use Rattle.fields.specs.Fields.{levels_of}
use Rattle.fields.specs.Fits.{label_in}
use Rattle.fields.proofs.nodes.label_ok.Goals as goal

pub returns : goal.returns
unfolding label_in levels_of
returns c = rw (
  c.not_above-2.ensures,
  c.not_above.ensures,
  c.levels_at-own.ensures,
)
