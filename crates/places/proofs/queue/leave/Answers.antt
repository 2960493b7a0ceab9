-- `queue::leave` meets its contract: the front is behind the last, and there is one unended run less. Assumes nothing.
use mathlib.Core.Path.{ap}
use mathlib.Core.List.{List}
use Prim.Native.Nat.{ℕ, ◌-◌}
use native.Mathlib.Omega.{arith}
use Rattle.places.proofs.Orders.{whole_rotated, left, freed}
use Rattle.places.proofs.queue.leave.Goals as goal

pub returns : goal.returns
returns c = let w = c.requires.0 in
    let z = c.requires.1 in
    let f = w.few in
    let t = c.turned.ensures in
    (whole_rotated _ w _ t _ (omega (arith, f)), left _ w _ t z, freed _ w _ t z, omega (arith, f, z), ap (λ (xs : List ℕ). record { order = xs; count = c.args.q.count - 1 }) t)
