-- `head` meets its contract: a number behind its name, and a line's end. Assumes nothing.
use Rattle.std.proofs.Common.{◌∙◌}
use Rattle.print.specs.Waiting.{pushes}
use Rattle.frames.specs.Pieces.{none, more}
use Rattle.frames.proofs.State.head.Goals as goal

pub returns-clause-writes : goal.returns-clause-writes
unfolding pushes
returns-clause-writes c = record { same = c.byte.ensures.0 ∙ c.item.ensures.same; puts = more c.item.ensures.number (more c.byte.ensures.1 none) }
