-- The parent is the cursor's node, which is there; the tests are those of the rules, in their order, and so is the new node. Assumes nothing.
use mathlib.Core.Path.{refl}
use Rattle.rules.specs.Tree.{child}
use Rattle.actions.proofs.Doing.{refused, allowed}
use Rattle.actions.proofs.Evaluation.{fits_read}
use Rattle.actions.proofs.Inserted.{Asked, above_first, insert_refused, insert_over, inserted}
use Rattle.actions.proofs.nodes.insert_first.Goals as goal
use Rattle.actions.proofs.nodes.insert_first.Goals.{After-may_add}

asked : (c : After-may_add)
    → let s = c.args in
    Asked s.words.now s.places s.r.memory s.pc child s.r.memory.cursor c.may_add.result
asked c =
    record {
      old = _;
      c = _;
      inside = c.requires.1.inside;
      on = above_first c.args.words.now c.args.r.memory c.requires.1.inside;
      beside = c.beside-old.ensures;
      at = c.position-c.ensures;
      lt = c.requires.1.inside;
      may = c.may_add.ensures;
    }

pub returns-then-not-may_add : goal.returns-then-not-may_add
returns-then-not-may_add c = λ l b v vars x e.
    let s = c.args in
    insert_refused _ s.pc child s.content s.list x (asked (goal.at.returns-then-not-may_add c).After-may_add) (refused refl c.if-not-may_add.true) c.halt.ensures

pub returns-in_default : goal.returns-in_default
returns-in_default c = λ l b v vars x e.
    let s = c.args in
    insert_over _ s.pc child s.content s.list x (asked (goal.at.returns-in_default c).After-may_add) (allowed refl c.if-not-may_add.false) e c.in_default.is c.halt-in_default.ensures

pub returns : goal.returns
returns c = λ l b v vars x e.
    let s = c.args in
    inserted _ s.pc child s.content s.list x (asked (goal.at.returns c).After-may_add) (allowed refl c.if-not-may_add.false) e (fits_read e c.in-Some.is) _ c.new_node-new.result
    c.add-got.ensures.added c.add-got.ensures.behind c.new_node-new.ensures c.placed.ensures
