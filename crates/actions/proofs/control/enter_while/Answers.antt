-- `control::enter_while` meets its contract: without a value it stops; a zero guard keeps the blocks, another adds a context. Assumes nothing.
use mathlib.Core.Path.{sym, ◌∙◌}
use mathlib.Core.Bool.{true, false}
use Rattle.actions.proofs.Entered.{enters_over, enters_while, jumped, pushed_held}
use Rattle.actions.proofs.control.enter_while.Goals as goal

pub returns-in_default : goal.returns-in_default
returns-in_default c = enters_over _ _ _ c.in_default.is c.halt.ensures

pub returns-then-is_zero : goal.returns-then-is_zero
returns-then-is_zero c = rw (jumped c.jump.ensures)
    (enters_while _ _ _ c.in-Some.is true (sym c.is_zero.ensures ∙ c.if-is_zero.true) _ (λ s e level deep held. held))

pub returns : goal.returns
returns c = enters_while _ _ _ c.in-Some.is false (sym c.is_zero.ensures ∙ c.if-is_zero.false) _
    (pushed_held c.args.r c.args.e _ _ _ c.top.ensures c.join-inner.ensures c.push.ensures)
