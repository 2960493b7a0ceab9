use mathlib.Core.Path.{◌≡◌}
use mathlib.Core.Bool.{Bool}
use Prim.Native.Nat.{ℕ, ◌<◌}
use Rattle.rules.proofs.Search.{Scan}
use Rattle.fields.proofs.scan.first_that_fails.Given as goal

abbrev pub invariant-loop-i : goal.invariant-loop-i
invariant-loop-i g l = (p : ℕ → Bool) → ((i : ℕ) (b : Bool) → i < l.count → goal.F-post g l.passes i b → b ≡ p i) → Scan p l.count l.i
