-- The flow found is the rules' L and the content read is the node's, so the test is the rules'; a result that is no number is 27 then, and of a number the
-- bits stored spell it. Assumes nothing.
use Rattle.actions.proofs.Doing.{refused, allowed}
use Rattle.actions.proofs.Evaluation.{fits_read}
use Rattle.actions.proofs.Inserted.{write_refused, write_over, written}
use Rattle.actions.proofs.nodes.write.Goals as goal

pub returns-then-not-not_above : goal.returns-then-not-not_above
returns-then-not-not_above c = λ l b v vars x e.
    write_refused _ c.args.pc e c.flow.ensures b c.requires.1.inside c.content.ensures (refused c.not_above.ensures c.if-not-not_above.true)
    c.halt.ensures

pub returns-in_default : goal.returns-in_default
returns-in_default c = λ l b v vars x e.
    write_over _ c.args.pc e c.flow.ensures b c.requires.1.inside c.content.ensures c.in_default.is
    (allowed c.not_above.ensures c.if-not-not_above.false) c.halt-in_default.ensures

pub returns : goal.returns
returns c = λ l b v vars x e.
    written _ c.args.pc e c.flow.ensures b c.requires.1.inside c.content.ensures _ (fits_read e c.in-Some.is)
    (allowed c.not_above.ensures c.if-not-not_above.false) c.bits.ensures c.set_value.ensures.by_index c.set_value.ensures.behind c.onward.ensures
