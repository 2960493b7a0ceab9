use Rattle.monitor.specs.Starting.{VariablesLoaded}
use Rattle.monitor.proofs.entry.load_variables.Given as goal

abbrev pub invariant-loop-i : goal.invariant-loop-i
invariant-loop-i l = VariablesLoaded l.job l.i l.initial.levels l.levels l.initial.values l.values
