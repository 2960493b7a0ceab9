-- `row` meets its contract: the numbers so far stand behind the name. Assumes nothing.
use Rattle.std.proofs.Common.{refl, ◌∙◌}
use Rattle.print.specs.Waiting.{none}
use Rattle.print.proofs.Pushing.{numbered}
use Rattle.print.proofs.Out.row.Goals as goal

pub loop-i-init : goal.loop-i-init
loop-i-init c = (refl, none)

pub loop-i-preserved : goal.loop-i-preserved
loop-i-preserved c = (
  c.shown.ensures.same ∙ c.byte.ensures.0 ∙ c.loop-i.invariant.0,
  numbered _ _ _ _ _ _ _ c.loop-i.invariant.1 c.byte.ensures.1 c.shown.ensures.shown,
)
