-- The parent is that of the cursor's node, and without one the answer is 22; the tests are those of the rules, in their order, and so is the new node. Assumes nothing.
use mathlib.Core.Path.{refl}
use Rattle.rules.specs.Tree.{sibling}
use Rattle.actions.proofs.Doing.{refused, allowed}
use Rattle.actions.proofs.Evaluation.{fits_read}
use Rattle.actions.proofs.Inserted.{Asked, above_right, insert_absent, insert_refused, insert_over, inserted}
use Rattle.actions.proofs.nodes.insert_right.Goals as goal
use Rattle.actions.proofs.nodes.insert_right.Goals.{After-may_add}

asked : (c : After-may_add)
    → let s = c.args in
    Asked s.words.now s.places s.r.memory s.pc sibling c.parent-above.result c.may_add.result
asked c =
    record {
      old = _;
      c = _;
      inside = c.requires.1.inside;
      on = above_right c.args.words.now c.args.r.memory c.parent-above.ensures;
      beside = c.beside-old.ensures;
      at = c.position-c.ensures;
      lt = c.if-above-places.false;
      may = c.may_add.ensures;
    }

pub returns-then-above-places : goal.returns-then-above-places
returns-then-above-places c = λ l b v vars x e.
    insert_absent _ c.args.pc sibling c.args.content c.args.list x c.requires.1.inside (above_right c.args.words.now c.args.r.memory c.parent-above.ensures)
    c.if-above-places.true c.halt.ensures

pub returns-then-not-may_add : goal.returns-then-not-may_add
returns-then-not-may_add c = λ l b v vars x e.
    let s = c.args in
    insert_refused _ s.pc sibling s.content s.list x (asked (goal.at.returns-then-not-may_add c).After-may_add) (refused refl c.if-not-may_add.true) c.halt-then-not-may_add.ensures

pub returns-in_default : goal.returns-in_default
returns-in_default c = λ l b v vars x e.
    let s = c.args in
    insert_over _ s.pc sibling s.content s.list x (asked (goal.at.returns-in_default c).After-may_add) (allowed refl c.if-not-may_add.false) e c.in_default.is c.halt-in_default.ensures

pub returns : goal.returns
returns c = λ l b v vars x e.
    let s = c.args in
    inserted _ s.pc sibling s.content s.list x (asked (goal.at.returns c).After-may_add) (allowed refl c.if-not-may_add.false) e (fits_read e c.in-Some.is) _ c.new_node-new.result
    c.add-got.ensures.added c.add-got.ensures.behind c.new_node-new.ensures c.placed.ensures
