use mathlib.Core.Path.{◌≡◌}
use Prim.Native.Nat.{◌≤◌, ◌<◌}
use Rattle.rules.specs.Check.{nearest}
use Rattle.fields.proofs.nodes.left_of.Given as goal

abbrev pub invariant-loop-k : goal.invariant-loop-k
invariant-loop-k l = (l.p < l.k) × (l.k ≤ l.i) × (nearest l.job l.base l.p l.i ≡ nearest l.job l.base l.p l.k)

abbrev pub decreases-loop-k : goal.decreases-loop-k
decreases-loop-k l = l.k
