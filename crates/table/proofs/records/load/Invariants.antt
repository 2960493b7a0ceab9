use mathlib.Core.Path.{◌≡◌}
use Prim.Native.Nat.{◌≤◌}
use lib.ListN.{length}
use Rattle.table.specs.Cells.{cells}
use Rattle.table.specs.Promises.{Behind}
use Rattle.table.proofs.Jobs.{Rule, Linking}
use Rattle.table.proofs.records.load.Given as goal

abbrev pub invariant-loop-x : goal.invariant-loop-x
invariant-loop-x l = (1 ≤ l.x) × (length l.words ≡ length l.initial.words) × (Rule l.job l.base l.n → Linking l.job l.base (cells l.words) l.n l.x)
    × Behind l.n (cells l.initial.words) (cells l.words)
