-- `control::enter_if` meets its contract: without a value it stops; else there is one context more, and the value's test chooses the next record.
-- Assumes nothing.
use mathlib.Core.Path.{sym, ◌∙◌}
use mathlib.Core.Bool.{true, false}
use Rattle.actions.proofs.Entered.{enters_over, enters_if, pushed_held}
use Rattle.actions.proofs.control.enter_if.Goals as goal
use Rattle.actions.proofs.control.enter_if.Goals.{then-is_zero, else-is_zero}

pub returns-in_default : goal.returns-in_default
returns-in_default c = enters_over _ _ _ c.in_default.is c.halt.ensures

pub returns : goal.returns
returns c = let held = pushed_held c.args.r c.args.e _ _ _ c.top.ensures c.join-inner.ensures c.push.ensures in
    elim c.if-is_zero.branch [
      | then-is_zero w ↦ rw w.result-is (enters_if _ _ _ c.in-Some.is true (sym c.is_zero.ensures ∙ w.if-is_zero.true) _ held)
      | else-is_zero w ↦ rw w.result-is (enters_if _ _ _ c.in-Some.is false (sym c.is_zero.ensures ∙ w.if-is_zero.false) _ held)
    ]
