-- `weigh` meets its contract: a node's subtree is part of its parent's. Assumes nothing.
use Prim.Native.Nat.{ℕ, suc, ◌-◌, ◌≤◌, ◌<◌}
use native.Mathlib.Omega.{arith}
use lib.ListN.{get_or}
use Rattle.rules.proofs.Accepted.{parent_before}
use Rattle.arranger.proofs.Weighing.{weight_few, weighed_next}
use Rattle.arranger.proofs.weights.weigh.Goals as goal
use Rattle.arranger.proofs.weights.weigh.Goals.{After-parent_at-p}

-- the parent comes before node i
before : (c : After-parent_at-p) → c.parent_at-p.result < c.args.i
before c =
    let q = c.requires in
    let h = parent_before _ _ _ (λ e. omega (arith, q.1)) (q.0.parents _ q.2) in omega (arith, c.parent_at-p.ensures.0)

pub bounds-weights-p : goal.bounds-weights-p
bounds-weights-p c = let q = c.requires in omega (arith, before (goal.at.bounds-weights-p c).After-parent_at-p, q.3.size, q.0.few, q.2)

-- no sum is more than there are records
few : (c : After-parent_at-p) (q : ℕ) → q < suc c.args.i → get_or c.args.weights.now q 0 ≤ 513
few c q h =
    let a = c.args in
    let r = c.requires in
    omega (arith, r.3.each q (omega (arith, r.2)), weight_few a.job.now a.base q (a.count - suc a.i) (suc a.i) h, r.0.few)

pub overflow_add-weights : goal.overflow_add-weights
overflow_add-weights c = let l = before (goal.at.overflow_add-weights c).After-parent_at-p in
    omega (arith, few (goal.at.overflow_add-weights c).After-parent_at-p c.parent_at-p.result (omega arith), few (goal.at.overflow_add-weights c).After-parent_at-p c.args.i (omega arith))

pub bounds-weights-p-2 : goal.bounds-weights-p-2
bounds-weights-p-2 c = let q = c.requires in omega (arith, before (goal.at.bounds-weights-p-2 c).After-parent_at-p, q.3.size, q.0.few, q.2)

pub returns : goal.returns
returns c = let q = c.requires in rw c.parent_at-p.ensures.0 (weighed_next _ _ _ q.0.parents _ _ q.1 q.2 q.0.few q.3)
