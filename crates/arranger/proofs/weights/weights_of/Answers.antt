-- `weights_of` meets its contract: from the last record on. Assumes nothing.
use mathlib.Core.Path.{◌≡◌}
use native.Mathlib.Omega.{arith}
use Rattle.arranger.proofs.Weighing.{weighed_start}
use Rattle.arranger.proofs.weights.weights_of.Goals as goal

pub loop-i-init : goal.loop-i-init
loop-i-init c = (c.requires.1, weighed_start _ _ _ c.requires.0.few)

pub returns : goal.returns
returns c = let v = c.loop-i.invariant in let z : c.loop-i.i ≡ 1 = omega (arith, v.0, c.loop-i-test.false) in rw z at v.1
