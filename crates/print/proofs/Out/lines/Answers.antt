-- `lines` meets its contract: the lines so far stand behind what waited. Assumes nothing.
use Rattle.std.proofs.Common.{refl, ◌∙◌}
use Rattle.print.specs.Waiting.{none}
use Rattle.print.proofs.Pushing.{lined}
use Rattle.print.proofs.Out.lines.Goals as goal

pub loop-i-init : goal.loop-i-init
loop-i-init c = (refl, none)

pub loop-i-preserved : goal.loop-i-preserved
loop-i-preserved c = (
  c.byte.ensures.0 ∙ c.line.ensures.same ∙ c.text.ensures.0 ∙ c.loop-i.invariant.0,
  lined c.args.name.now c.args.area.now _ _ _ _ _ c.loop-i.i c.loop-i.invariant.1 c.text.ensures.1 c.line.ensures.lined c.byte.ensures.1,
)
