use Prim.Native.Nat.{◌≤◌, ◌<◌}
use Rattle.inspect.proofs.tree.nodes.Given as goal

abbrev pub invariant-loop-k : goal.invariant-loop-k
invariant-loop-k l = (l.v.place < 512) × (l.v.depth ≤ l.k)
