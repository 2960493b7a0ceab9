use Rattle.arranger.proofs.Putting.{Halfway}
use Rattle.arranger.proofs.arranging.put_all.Given as goal

abbrev pub invariant-loop-i : goal.invariant-loop-i
invariant-loop-i l = Halfway l.initial.job l.base l.count l.own l.i l.job
