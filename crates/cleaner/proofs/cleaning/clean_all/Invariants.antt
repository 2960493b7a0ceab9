use Rattle.rules.proofs.Cleaned.{Partly}
use Rattle.cleaner.proofs.cleaning.clean_all.Given as goal

abbrev pub invariant-loop-at : goal.invariant-loop-at
invariant-loop-at l = Partly l.initial.job l.at l.job
