use mathlib.Core.Path.{◌≡◌}
use Prim.Native.Nat.{ℕ, ◌≤◌, ◌<◌}
use Rattle.rules.specs.Check.{on_path, order_rule}
use Rattle.fields.proofs.nodes.order_ok.Given as goal

abbrev pub invariant-loop-w : goal.invariant-loop-w
invariant-loop-w l = (l.w < l.i) × ((steps : ℕ) × ((l.w ≤ steps) × (order_rule l.job l.base l.i ≡ on_path l.job l.base l.p steps l.w)))

abbrev pub decreases-loop-w : goal.decreases-loop-w
decreases-loop-w l = l.w
