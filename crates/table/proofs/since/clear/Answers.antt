-- The invariant: the walk has come to where next leads, and at most `left` places wait. Assumes nothing.
use mathlib.Core.Path.{◌≡◌, refl, subst, ◌∙◌}
use mathlib.Core.Logic.{inl}
use Prim.Native.Nat.{suc, ◌-◌}
use native.Mathlib.Omega.{arith}
use lib.ListN.{length-set}
use Rattle.table.specs.Cells.{cells}
use Rattle.table.proofs.Behind.{then_behind}
use Rattle.table.proofs.Effects.{popped_behind}
use Rattle.table.proofs.Forgetting.{Going, going_start, going_on, going_done}
use Rattle.table.proofs.since.clear.Goals as goal

pub loop-left-init : goal.loop-left-init
loop-left-init c = let a = c.args in (
  refl,
  refl,
  record { same = λ _ _. refl },
  λ used s room f e once. going_start (omega (arith, c.requires.1.0)) room s once (cells a.words.now) a.since.now f e,
)

pub loop-left-preserved : goal.loop-left-preserved
loop-left-preserved c = let i = c.loop-left.invariant in
    let l = c.loop-left._left in
    let p = c.pop-next.ensures in
    let one : l ≡ suc (l - 1) = omega (arith, c.loop-left-test.true) in (
      c.pop-next.auto.words ∙ i.0,
      length-set c.loop-left.since _ _ ∙ i.1,
      then_behind i.2 (popped_behind p),
      λ used s room f e once.
          going_on (omega (arith, c.requires.1.0)) room s once _ _ (omega (arith, i.1, c.requires.1.1)) c.if-next-places.false
          (subst (Going _ used s _ _ _ _ _) one (i.3 used s room f e once)) p,
    )

pub returns : goal.returns
returns c = let i = c.loop-left.invariant in
    record {
      size = i.1;
      behind = i.2;
      done = λ used s room f e once.
          going_done (omega (arith, c.requires.1.0)) room s once _ _ (i.3 used s room f e once) (inl (omega (arith, c.loop-left-test.false)));
    }
