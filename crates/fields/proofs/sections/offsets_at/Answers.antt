-- `offsets_at` meets its contract: it is the definition. Assumes nothing.
use Rattle.rules.specs.Bytes.{variables_at, nodes_at, script_at, trailer_at}
use Rattle.fields.specs.Layout.{offsets_of}
use Rattle.fields.proofs.sections.offsets_at.Goals as goal

pub returns : goal.returns
unfolding offsets_of variables_at nodes_at script_at trailer_at
returns c = rw (
  c.half_at-4.ensures.0,
  c.half_at-3.ensures.0,
  c.half_at-2.ensures.0,
  c.half_at.ensures.0,
)
