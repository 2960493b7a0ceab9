use mathlib.Core.Path.{◌≡◌}
use mathlib.Core.List.{flat_map}
use Prim.Native.Nat.{ℕ, ◌<◌}
use lib.ListN.{length, get_or}
use lib.IntN.{pos}
use Rattle.rules.specs.Number.{Fits}
use Rattle.rules.specs.Job.{listed}
use Rattle.rules.specs.Write.{variable_bytes}
use Rattle.writer.specs.Area.{replaced, lent_variable}
use Rattle.writer.proofs.variables.put_variables.Given as goal

abbrev pub invariant-loop-i : goal.invariant-loop-i
invariant-loop-i l = (length l.area ≡ length l.initial.area) × (l.area ≡ replaced l.initial.area 0 (flat_map variable_bytes (listed (lent_variable l.levels l.values) l.i 0)))
    × ((k : ℕ) → k < l.i → Fits (get_or l.values k (pos 0)))
