-- Each turn keeps to the laws of the walk, and comes nearer to its end. Assumes nothing.
use Rattle.std.proofs.Common.{refl, ◌∙◌, length}
use Rattle.entry.proofs.Surveying.{Point, first, turned, last}
use Rattle.entry.proofs.standing.held.Goals as goal
use Rattle.entry.proofs.standing.held.Goals.{After-ask-x-in-loop-x, After-loop-x}

pub loop-x-init : goal.loop-x-init
loop-x-init c =
    let p = first c.args.table.now c.min-n.result c.min-n.ensures c.requires c.start-s.ensures c.ask-x.ensures in
    record { few_dues = p.few_dues; few_bounds = p.few_bounds; few_marks = refl; walking = p.walking; asked = p.asked }

-- where the walk is
abbrev point : (c : After-ask-x-in-loop-x) → Point c.args.table.now c.min-n.result (length c.args.marks.now)
point c =
    let i = c.loop-x.invariant in
    record {
      dues = c.loop-x.dues;
      bounds = c.loop-x.bounds;
      marks = c.loop-x.marks;
      s = c.loop-x.s;
      x = c.loop-x.x;
      few_dues = i.few_dues;
      few_bounds = i.few_bounds;
      few_marks = i.few_marks;
      walking = i.walking;
      asked = i.asked;
    }

pub loop-x-smaller : goal.loop-x-smaller
loop-x-smaller c = (turned c.args.table.now c.min-n.result c.min-n.ensures c.requires.long (point c) c.loop-x-test.true c.turn-s.ensures).1

pub loop-x-preserved : goal.loop-x-preserved
loop-x-preserved c =
    let i = c.loop-x.invariant in
    let k = c.turn-s.auto in
    record {
      few_dues = k.dues ∙ i.few_dues;
      few_bounds = k.bounds ∙ i.few_bounds;
      few_marks = k.marks ∙ i.few_marks;
      walking = (turned c.args.table.now c.min-n.result c.min-n.ensures c.requires.long (point c) c.loop-x-test.true c.turn-s.ensures).0;
      asked = c.ask-x-in-loop-x.ensures;
    }

-- where it ends
abbrev ended : (c : After-loop-x) → Point c.args.table.now c.min-n.result (length c.args.marks.now)
ended c =
    let i = c.loop-x.invariant in
    record {
      dues = c.loop-x.dues;
      bounds = c.loop-x.bounds;
      marks = c.loop-x.marks;
      s = c.loop-x.s;
      x = c.loop-x.x;
      few_dues = i.few_dues;
      few_bounds = i.few_bounds;
      few_marks = i.few_marks;
      walking = i.walking;
      asked = i.asked;
    }

pub returns : goal.returns
returns c = last c.args.table.now c.min-n.result c.min-n.ensures c.requires.long (ended c) c.loop-x-test.false
