-- `read_header` meets its contract: it is the definition, field by field. Assumes nothing.
use Rattle.frames.specs.Header.{header_at}
use Rattle.frames.proofs.read_header.Goals as goal

pub returns : goal.returns
unfolding header_at
returns c = (
  rw (c.half_at-2.ensures.0, c.half_at.ensures.0, c.from.ensures, c.full_at-2.ensures, c.full_at.ensures),
  (c.half_at.ensures.1, c.half_at-2.ensures.1),
)
