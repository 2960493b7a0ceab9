use mathlib.Core.List.{List, ◌++◌}
use mathlib.Core.Path.{◌≡◌}
use Prim.Native.Nat.{ℕ, ◌≤◌, ◌-◌}
use lib.ListN.{length}
use Rattle.text.specs.Hex.{plain, times, Leaves}
use Rattle.text.proofs.repeat.Given as goal

abbrev pub invariant-loop-i : goal.invariant-loop-i
invariant-loop-i l = (length l.bytes ≡ length l.initial.bytes) × (l.count ≤ length l.bytes) × ((k : List ℕ) → Leaves l.initial.bytes l.n (times l.often (plain l.text) ++ k) l.bytes l.count (times (l.often - l.i) (plain l.text) ++ k))
