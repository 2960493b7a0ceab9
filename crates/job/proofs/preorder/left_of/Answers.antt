-- `left_of` meets its contract: the walk stays on the way up from the record before, above the parent, until it meets the parent or a child of it, or passes it.
-- Assumes nothing.
use mathlib.Core.Path.{◌≡◌, sym, ap, ◌∙◌}
use mathlib.Core.List.{List}
use Prim.Native.Nat.{ℕ, suc, ◌≤◌, ◌<◌}
use native.Mathlib.Omega.{arith}
use Rattle.rules.specs.Check.{parent}
use Rattle.rules.proofs.Accepted.{parent_before}
use Rattle.fields.specs.Siblings.{Rooted}
use Rattle.fields.proofs.Siblings.{beside_is}
use Rattle.job.proofs.Ways.{on_start, on_up, on_order, on_left, on_first}
use Rattle.job.proofs.preorder.left_of.Goals as goal

-- above a record that is not the parent stands an earlier one
higher : {b : List ℕ} {base i : ℕ} (p k : ℕ) → Rooted b base i → p ≤ k → (k ≡ p → ⊥) → k < i → parent b base k < k
higher {b} {base} p k r h n l = parent_before b base k (λ e. omega arith) (r.parents k (omega arith))

pub loop-k-init : goal.loop-k-init
loop-k-init c = let q = c.requires in
    let n = q.0 in
    let l = parent_before _ _ _ q.0 (q.1.parents _ (omega arith)) in
    let e = c.parent_at-p.ensures.0 in (omega arith, omega arith, λ z. omega arith, on_start _ _ _)

pub loop-k-smaller : goal.loop-k-smaller
loop-k-smaller c = let v = c.loop-k.invariant in
    let l = higher _ _ c.requires.1 v.0 c.if-k-p.false v.1 in
    omega (arith, c.parent_at-q.ensures.0)

pub loop-k-preserved : goal.loop-k-preserved
loop-k-preserved c = let v = c.loop-k.invariant in
    let l = higher _ _ c.requires.1 v.0 c.if-k-p.false v.1 in
    let e = c.parent_at-q.ensures.0 in (
      c.if-q-p-2.false,
      omega (arith, v.1),
      λ z. absurd (c.if-q-p.false z),
      rw e (on_up _ _ (λ z. omega arith) v.3),
    )

pub returns-then-k-p : goal.returns-then-k-p
returns-then-k-p c = let q = c.requires in
    let v = c.loop-k.invariant in
    let e = c.parent_at-p.ensures.0 in
    let z = c.if-k-p.true ∙ e in
    (on_order _ _ _ q.0 q.1 q.2 (rw (← z) v.3), e ∙ sym (beside_is _ _ _ (on_first _ _ _ q.0 q.1 q.2 (ap suc (sym e) ∙ v.2 c.if-k-p.true))))

pub returns-then-q-p : goal.returns-then-q-p
returns-then-q-p c = let q = c.requires in
    let v = c.loop-k.invariant in
    let n = c.if-k-p.false in
    let e = c.parent_at-p.ensures.0 in
    let z = sym c.parent_at-q.ensures.0 ∙ c.if-q-p.true ∙ e in (
      on_order _ _ _ q.0 q.1 q.2 (rw (← z) (on_up _ _ (λ w. omega (arith, v.0)) v.3)),
      sym (beside_is _ _ _ (on_left _ _ _ q.0 q.1 q.2 _ v.3 z (omega (arith, v.0)) v.1)),
    )
