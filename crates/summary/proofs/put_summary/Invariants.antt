use Rattle.rules.specs.Summary.{summary}
use Rattle.summary.specs.Summed.{Summed}
use Rattle.summary.proofs.put_summary.Given as goal

abbrev pub invariant-loop-i : goal.invariant-loop-i
invariant-loop-i l = Summed (summary l.job) l.initial.out.waits l.i l.out.waits
