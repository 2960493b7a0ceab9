use Rattle.job.specs.Hanging.{AllFit}
use Rattle.job.proofs.preorder.all_fit.Given as goal

abbrev pub invariant-loop-i : goal.invariant-loop-i
invariant-loop-i l = AllFit l.top l.job l.base l.i
