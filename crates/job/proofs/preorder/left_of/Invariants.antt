use mathlib.Core.Path.{◌≡◌}
use Prim.Native.Nat.{suc, ◌-◌, ◌≤◌, ◌<◌}
use Rattle.job.proofs.Ways.{On}
use Rattle.job.proofs.preorder.left_of.Given as goal

abbrev pub invariant-loop-k : goal.invariant-loop-k
invariant-loop-k l = (l.p ≤ l.k) × (l.k < l.i) × (l.k ≡ l.p → suc l.p ≡ l.i) × On l.job l.base (l.i - 1) l.k

abbrev pub decreases-loop-k : goal.decreases-loop-k
decreases-loop-k l = l.k
