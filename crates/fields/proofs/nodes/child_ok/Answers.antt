-- `child_ok` meets its contract: the three tests; what stands beside the node comes before it, as its parent does. Assumes nothing.
use Prim.Native.Nat.{◌<◌}
use native.Mathlib.Omega.{arith}
use Rattle.rules.proofs.Accepted.{parent_before}
use Rattle.fields.specs.Fields.{levels_of}
use Rattle.fields.proofs.Siblings.{beside_below, child_beside}
use Rattle.fields.proofs.nodes.child_ok.Goals as goal

pub levels_at-above-requires : goal.levels_at-above-requires
levels_at-above-requires c = let q = c.requires in
    let h : c.parent_at-p.result < c.args.i = rw c.parent_at-p.ensures.0 (parent_before _ _ _ q.0 (q.1.parents _ (omega arith))) in
    omega (arith, q.1.inside)

pub levels_at-requires : goal.levels_at-requires
levels_at-requires c = let q = c.requires in
    let a = c.args in
    let h : a.k < a.i = rw q.2 (beside_below _ _ _ q.0 q.1) in
    omega (arith, q.1.inside)

pub returns : goal.returns
unfolding levels_of
returns c = let a = c.args in
    rw (
      child_beside a.job.now a.base a.i,
      c.not_above-3.ensures,
      c.levels_at.ensures,
      c.not_above-2.ensures,
      c.not_above.ensures,
      c.levels_at-above.ensures,
      c.levels_at-own.ensures,
      c.parent_at-p.ensures.0,
      c.requires.2,
    )
