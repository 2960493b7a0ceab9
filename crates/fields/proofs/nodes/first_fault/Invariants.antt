use Rattle.rules.proofs.Search.{Scan}
use Rattle.fields.specs.Fits.{node_in}
use Rattle.fields.specs.Siblings.{Lasts}
use Rattle.fields.proofs.nodes.first_fault.Given as goal

abbrev pub invariant-loop-i : goal.invariant-loop-i
invariant-loop-i l = Scan (node_in l.top l.job l.base) l.count l.i × Lasts l.job l.base l.i l.last
