-- How far the run has come, by what the last step handed back; what is left falls with each step.
use Rattle.actions.specs.Shows.{slices}
use Rattle.interpreter.specs.Steps.{held}
use Rattle.interpreter.proofs.Looped.{Going, rest}
use Rattle.interpreter.proofs.run.run.Given as goal

abbrev pub invariant-loop-ending : goal.invariant-loop-ending
invariant-loop-ending l =
    Going (held l.job l.plan l.f) (slices l.fn.words l.fn.levels l.fn.values l.fn.lines) l.fn.marks l.fn.r
    (slices l.words l.levels l.values l.lines) l.marks l.r l.ending

abbrev pub decreases-loop-ending : goal.decreases-loop-ending
decreases-loop-ending l = rest l.ending l.r.left
