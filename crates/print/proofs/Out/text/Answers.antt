-- `text` meets its contract: the bytes so far stand behind what waited. Assumes nothing.
use Rattle.std.proofs.Common.{rules, refl, ◌∙◌, ap, List, ℕ, get_or}
use Rattle.print.specs.Waiting.{push, pushes}
use Rattle.print.proofs.Pushing.{pushed}
use Rattle.print.proofs.Out.text.Goals as goal

pub loop-b-init : goal.loop-b-init
unfolding pushes
loop-b-init c = (refl, refl)

pub loop-b-preserved : goal.loop-b-preserved
loop-b-preserved c = (
  c.byte.ensures.0 ∙ c.loop-b.invariant.0,
  c.byte.ensures.1 ∙ ap (λ (w : List ℕ). push w (get_or c.args.bytes.now c.loop-b.b-index 0)) c.loop-b.invariant.1
      ∙ pushed _ c.args.bytes.now c.loop-b.b-index (search rules),
)
