-- The test of the levels found is the rule's; after it a result that is no number is 27, and for a number the store is the rule's new variable.
-- Assumes nothing.
use Rattle.actions.proofs.Doing.{refused, allowed}
use Rattle.actions.proofs.Evaluation.{fits_read}
use Rattle.actions.proofs.Assigned.{no_assign, over_assign, did_assign}
use Rattle.actions.proofs.variables.assign.Goals as goal

pub returns-then-not-not_above : goal.returns-then-not-not_above
returns-then-not-not_above c = λ w b places vars x inside lt long e.
    no_assign _ c.args.pc e inside c.join.ensures b lt c.from-i.ensures (refused c.not_above.ensures c.if-not-not_above.true) c.halt.ensures

pub returns-in_default : goal.returns-in_default
returns-in_default c = λ w b places vars x inside lt long e.
    over_assign _ c.args.pc e inside c.join.ensures b lt c.from-i.ensures c.in_default.is (allowed c.not_above.ensures c.if-not-not_above.false)
    c.halt-in_default.ensures

pub returns : goal.returns
returns c = λ w b places vars x inside lt long e.
    did_assign _ c.args.pc e inside c.join.ensures b lt c.from-i.ensures _ (fits_read e c.in-Some.is) long
    (allowed c.not_above.ensures c.if-not-not_above.false) c.onward.ensures
