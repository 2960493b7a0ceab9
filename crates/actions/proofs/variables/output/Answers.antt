-- The tests of the level found, of the result and of the board's room are the rule's, in its order, and after them the bytes put are the rule's new line.
-- Assumes nothing.
use native.Mathlib.Omega.{arith}
use Rattle.actions.proofs.Doing.{refused, allowed}
use Rattle.actions.proofs.Evaluation.{fits_read}
use Rattle.actions.proofs.Assigned.{no_output, over_output, full_output, did_output}
use Rattle.actions.proofs.variables.output.Goals as goal

pub returns-then-not-not_above : goal.returns-then-not-not_above
returns-then-not-not_above c = λ w l v places vars x inside e.
    no_output _ c.args.pc e inside c.join.ensures _ c.args.readers (refused c.not_above.ensures c.if-not-not_above.true) c.halt.ensures

pub returns-in_default : goal.returns-in_default
returns-in_default c = λ w l v places vars x inside e.
    over_output _ c.args.pc e inside c.join.ensures _ c.args.readers c.in_default.is (allowed c.not_above.ensures c.if-not-not_above.false) c.halt-in_default.ensures

pub returns-then-n-lines : goal.returns-then-n-lines
returns-then-n-lines c = λ w l v places vars x inside e.
    full_output _ c.args.pc e inside c.join.ensures _ c.args.readers _ c.in-Some.is (allowed c.not_above.ensures c.if-not-not_above.false) (omega (arith, c.if-n-lines.true))
    c.halt-then-n-lines.ensures

pub returns : goal.returns
returns c = λ w l v places vars x inside e.
    did_output _ c.args.pc e inside c.join.ensures _ c.args.readers _ (fits_read e c.in-Some.is) (allowed c.not_above.ensures c.if-not-not_above.false)
    (omega (arith, c.if-n-lines.false)) _ c.put_line.ensures c.onward.ensures
