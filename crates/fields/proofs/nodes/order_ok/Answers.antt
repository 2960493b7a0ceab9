-- `order_ok` meets its contract: whether the parent stands on the way up from the record before is whether it stands on the way up from where the walk has come to; and
-- above a record stand only earlier ones. Assumes nothing.
use mathlib.Core.Path.{◌≡◌, sym, ◌∙◌}
use mathlib.Core.Bool.{true}
use mathlib.Core.List.{List}
use Prim.Native.Nat.{ℕ, zero, suc, ◌-◌, ◌≤◌, ◌<◌}
use native.Mathlib.Omega.{arith}
use native.Mathlib.Decide.{ℕ_discrete}
use lib.Dec.{eqb}
use borrow.Author.Tests.{eq-eqb, ne_eqb}
use Rattle.rules.specs.Check.{parent, parent_rule, on_path, order_rule}
use Rattle.rules.proofs.Accepted.{parent_before}
use Rattle.rules.proofs.Ordered.{path_found, path_up, path_below}
use Rattle.fields.proofs.nodes.order_ok.Goals as goal
use Rattle.fields.proofs.nodes.order_ok.Goals.{In-loop-w}

-- above a record stands an earlier one
below : (c : In-loop-w) → let a = c.args in parent a.job.now a.base c.loop-w.w < c.loop-w.w
below c =
    let l = c.loop-w-test.true in
    parent_before _ _ _ (λ e. omega arith) (c.requires.parents _ (omega (arith, c.loop-w.invariant.0)))

-- one step up
higher : (b : List ℕ) (base p steps w q : ℕ) → p < w → w ≤ steps → q ≡ parent b base w → on_path b base p steps w ≡ on_path b base p (steps - 1) q
higher b base p zero w q l h e = absurd (omega arith)
higher b base p (suc n) w q l h e =
    let y : suc n - 1 ≡ n = omega arith in path_up b base p n w (λ z. omega arith) (λ z. omega arith) ∙ rw (y, e)

-- at the parent or above it, the walk is over
over : (b : List ℕ) (base p m : ℕ) → ((k : ℕ) → k < m → parent_rule b base k ≡ true) → (steps w : ℕ) → w ≤ p → w < m → Dec (w ≡ p)
    → eqb w p ≡ on_path b base p steps w
over b base p m parents steps w h l (yes e) = eq-eqb w p e ∙ sym (path_found b base p steps w (sym e))
over b base p m parents steps w h l (no e) = ne_eqb w p e ∙ sym (path_below b base m parents p steps w (omega arith) l)

pub returns-then-i-eq0 : goal.returns-then-i-eq0
unfolding order_rule
returns-then-i-eq0 c = rw (eq-eqb _ 0 c.if-i-eq0.true)

pub loop-w-init : goal.loop-w-init
unfolding order_rule
loop-w-init c = let n = c.if-i-eq0.false in
    (omega arith, (c.args.i, (omega arith, rw (ne_eqb _ 0 n, c.parent_at-p.ensures.0))))

pub parent_at-w-requires : goal.parent_at-w-requires
parent_at-w-requires c = omega (arith, c.loop-w.invariant.0, c.requires.inside)

pub loop-w-smaller : goal.loop-w-smaller
loop-w-smaller c = let l = below (goal.at.loop-w-smaller c).In-loop-w in omega (arith, c.parent_at-w.ensures.0)

pub loop-w-preserved : goal.loop-w-preserved
loop-w-preserved c = let v = c.loop-w.invariant in
    let l = below (goal.at.loop-w-preserved c).In-loop-w in
    let t = c.loop-w-test.true in
    let e = c.parent_at-w.ensures.0 in (
      omega (arith, v.0),
      (v.1.0 - 1, (omega (arith, v.1.1.0), v.1.1.1 ∙ higher _ _ _ _ _ _ t v.1.1.0 e)),
    )

pub returns : goal.returns
returns c = let v = c.loop-w.invariant in
    let q = c.requires in
    over _ _ _ (suc c.args.i) (λ k l. q.parents k (omega arith)) _ _ c.loop-w-test.false (omega (arith, v.0)) (ℕ_discrete _ _)
    ∙ sym v.1.1.1
