use Rattle.arranger.specs.Arranger.{Placing}
use Rattle.arranger.proofs.places.places_of.Given as goal

abbrev pub invariant-loop-i : goal.invariant-loop-i
invariant-loop-i l = Placing l.job l.base l.count l.i l.own l.next
