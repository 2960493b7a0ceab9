-- Up where the list is closed, or down where the record is admitted, or else no further. Assumes nothing.
use mathlib.Core.Path.{sym, ◌∙◌}
use native.Mathlib.Omega.{arith}
use Rattle.lent.proofs.Walking.{admitted_due}
use Rattle.lent.proofs.standing.turn.Goals as goal

pub overflow_sub-dues : goal.overflow_sub-dues
overflow_sub-dues c = let a = c.args in
    omega (arith, admitted_due a.s a.d (sym c.admits.ensures.value ∙ c.if-not-admits.false))
