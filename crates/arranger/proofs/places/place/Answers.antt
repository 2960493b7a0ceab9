-- `place` meets its contract: node i opens the segment that is due below its parent. Assumes nothing.
use mathlib.Core.Path.{◌≡◌, refl, ◌∙◌}
use Prim.Native.Nat.{suc, ◌-◌, ◌<◌}
use native.Mathlib.Omega.{arith}
use lib.ListN.{get_or, length-set}
use Rattle.rules.proofs.Accepted.{parent_before}
use Rattle.arranger.specs.Arranger.{weight}
use Rattle.arranger.proofs.Weighing.{weight_late}
use Rattle.arranger.proofs.Placing.{placing_room, placing_next}
use Rattle.arranger.proofs.places.place.Goals as goal
use Rattle.arranger.proofs.places.place.Goals.{After-parent_at-p}

-- the parent comes before node i
before : (c : After-parent_at-p) → c.parent_at-p.result < c.args.i
before c =
    let q = c.requires in
    let h = parent_before _ _ _ (λ e. omega (arith, q.2)) (q.0.parents _ q.3) in omega (arith, c.parent_at-p.ensures.0)

-- what its subtree weighs
weighs : (c : After-parent_at-p) → let a = c.args in
    get_or a.weights.now a.i 0 ≡ weight a.job.now a.base a.i (a.count - suc a.i) (suc a.i)
weighs c =
    let q = c.requires in q.1.each _ q.3 ∙ weight_late _ _ _ q.0.parents _ q.3

pub bounds-next-p : goal.bounds-next-p
bounds-next-p c = let q = c.requires in omega (arith, before (goal.at.bounds-next-p c).After-parent_at-p, q.4.size_next, q.0.few, q.3)

pub overflow_add-next : goal.overflow_add-next
overflow_add-next c = let q = c.requires in omega (arith, (q.4.ahead _ (before (goal.at.overflow_add-next c).After-parent_at-p)).within, q.0.few)

pub overflow_add-next-2 : goal.overflow_add-next-2
overflow_add-next-2 c = let q = c.requires in
    let h = placing_room _ _ _ q.0.few q.0.parents _ q.2 q.3 _ _ _ _ q.4 refl (weighs (goal.at.overflow_add-next-2 c).After-parent_at-p) in
    rw c.parent_at-p.ensures.0 (omega (arith, h, q.0.few))

pub bounds-next-p-2 : goal.bounds-next-p-2
bounds-next-p-2 c = let q = c.requires in rw length-set (omega (arith, before (goal.at.bounds-next-p-2 c).After-parent_at-p, q.4.size_next, q.0.few, q.3))

pub returns : goal.returns
returns c = let q = c.requires in
    rw c.parent_at-p.ensures.0 (placing_next _ _ _ q.0.few q.0.parents _ q.2 q.3 _ _ _ _ q.4 refl (weighs (goal.at.returns c).After-parent_at-p))
