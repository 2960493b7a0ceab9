-- `all_fit` meets its contract: each node passed fits. Assumes nothing.
use native.Mathlib.Omega.{arith}
use native.Mathlib.Numerals.{add-one}
use Rattle.job.proofs.Ways.{fit_next}
use Rattle.job.proofs.preorder.all_fit.Goals as goal

pub node_fits-requires : goal.node_fits-requires
node_fits-requires c = let q = c.requires in
    (record { inside = omega (arith, q.inside); few = omega (arith, q.few); parents = λ k h. q.parents k (omega arith) }, c.loop-i.invariant)

pub loop-i-preserved : goal.loop-i-preserved
loop-i-preserved c = rw add-one (fit_next _ _ _ _ c.loop-i.invariant (c.node_fits.ensures c.if-not-node_fits.false))
