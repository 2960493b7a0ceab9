-- `control::enter_back` meets its contract: without a value it stops; else what is remembered is stored, there is one context more, and the value's test
-- chooses the next record. Assumes nothing.
use mathlib.Core.Path.{sym, ◌∙◌}
use mathlib.Core.Bool.{true, false}
use native.Mathlib.Omega.{arith}
use Rattle.actions.proofs.Entered.{saves_over, saves}
use Rattle.actions.proofs.control.enter_back.Goals as goal
use Rattle.actions.proofs.control.enter_back.Goals.{then-is_zero, else-is_zero}

pub returns-in_default : goal.returns-in_default
returns-in_default c = saves_over _ _ _ _ _ c.in_default.is c.halt.ensures

pub returns : goal.returns
returns c = rw c.save.ensures
    (elim c.if-is_zero.branch [
      | then-is_zero w ↦ rw w.result-is
          (saves _ c.args.r c.args.e _ _ c.requires.1.0 c.requires.1.1.0 c.requires.1.1.1 c.in-Some.is true
          (sym c.is_zero.ensures ∙ w.if-is_zero.true) _ c.top.ensures c.join-inner.ensures c.push.ensures c.level_of-level.ensures
          (c.from.ensures ∙ c.join.ensures) (omega arith))
      | else-is_zero w ↦ rw w.result-is
          (saves _ c.args.r c.args.e _ _ c.requires.1.0 c.requires.1.1.0 c.requires.1.1.1 c.in-Some.is false
          (sym c.is_zero.ensures ∙ w.if-is_zero.false) _ c.top.ensures c.join-inner.ensures c.push.ensures c.level_of-level.ensures
          (c.from.ensures ∙ c.join.ensures) (omega arith))
    ])
