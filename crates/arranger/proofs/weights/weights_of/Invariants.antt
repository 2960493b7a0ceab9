use Prim.Native.Nat.{◌≤◌}
use Rattle.arranger.specs.Arranger.{Weighed}
use Rattle.arranger.proofs.weights.weights_of.Given as goal

abbrev pub invariant-loop-i : goal.invariant-loop-i
invariant-loop-i l = (1 ≤ l.i) × Weighed l.job l.base l.count l.i l.weights
