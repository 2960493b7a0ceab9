-- `offsets_ok` meets its contract: it is the definition. Assumes nothing.
use Rattle.rules.specs.Check.{offset_rule}
use Rattle.fields.specs.Layout.{offsets_of}
use Rattle.fields.proofs.sections.offsets_ok.Goals as goal

pub returns : goal.returns
unfolding offset_rule offsets_of
returns c = rw (
  c.is_whole-3.ensures,
  c.is_whole-2.ensures,
  c.is_whole.ensures,
  c.offsets_at-o.ensures,
)
