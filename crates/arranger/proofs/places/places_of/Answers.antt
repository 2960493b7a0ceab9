-- `places_of` meets its contract: from the first record on. Assumes nothing.
use mathlib.Core.Path.{◌≡◌}
use native.Mathlib.Omega.{arith}
use Rattle.arranger.proofs.Placing.{placing_start, placing_end}
use Rattle.arranger.proofs.places.places_of.Goals as goal

pub loop-i-init : goal.loop-i-init
loop-i-init c = let q = c.requires in placing_start _ _ _ q.0.few q.0.parents q.1

pub returns : goal.returns
returns c = let z : c.loop-i.i ≡ c.args.count = omega (arith, c.requires.1, c.loop-i.auto.i-end, c.loop-i-test.false) in
    placing_end _ _ _ _ _ (rw z at c.loop-i.invariant)
