-- Each test is the rules' one, since what is read at a place is what the node there shows. Assumes nothing.
use mathlib.Core.Path.{ap, ◌∙◌}
use Rattle.rules.specs.Level.{not_above}
use Rattle.actions.proofs.Doing.{refused, allowed}
use Rattle.actions.proofs.nodes.may_add.Goals as goal

pub returns-then-not-not_above : goal.returns-then-not-not_above
returns-then-not-not_above c = record {
  add = λ pc μ q p i a l. rw (ap (not_above _) (c.structure.ensures _ _ _ _ a) ∙ refused c.not_above.ensures c.if-not-not_above.true);
}

pub returns : goal.returns
returns c = record {
  add = λ pc μ q p i a l.
      rw (ap (not_above _) (c.structure.ensures _ _ _ _ a) ∙ allowed c.not_above.ensures c.if-not-not_above.false) (c.may_touch.ensures.touch pc μ p i l);
}
