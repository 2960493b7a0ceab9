-- The invariant: the walk is where the laws say, with the first nodes written. The measure is the turns that are left. Assumes nothing.
use mathlib.Core.Path.{refl, ◌∙◌}
use Prim.Native.Nat.{◌<◌, ◌≤◌}
use native.Mathlib.Omega.{arith}
use Rattle.rules.specs.Tree.{size}
use Rattle.table.specs.Cells.{gone}
use Rattle.writer.proofs.Walked.{writing_start, turned_slots, shallow, ready_above, turned, nodes_put}
use Rattle.writer.proofs.nodes.put_nodes.Goals as goal

pub loop-s-init : goal.loop-s-init
loop-s-init c = (refl, refl, λ t h e. rw c.start-s.ensures (writing_start h))

pub turn-s-requires : goal.turn-s-requires
turn-s-requires c = let p = c.requires in
    let i = c.loop-s.invariant in
    let le : c.args.places ≤ gone = omega (arith, p.few) in
    let w = i.2 p.t p.stands p.all in
    let more : c.loop-s.s.next < size p.t = omega (arith, p.all, c.loop-s-test.true) in
    record {
      long = p.long;
      above = ready_above le w more;
      below = λ lt. (
        omega (arith, shallow le w, p.stands.few),
        omega (arith, p.stands.few),
        omega (arith, p.room, p.all, i.0),
      );
    }

pub loop-s-smaller : goal.loop-s-smaller
loop-s-smaller c = let p = c.requires in
    let i = c.loop-s.invariant in
    let le : c.args.places ≤ gone = omega (arith, p.few) in
    let w = i.2 p.t p.stands p.all in
    let more : c.loop-s.s.next < size p.t = omega (arith, p.all, c.loop-s-test.true) in
    let q = (turned le w more (omega (arith, p.room, p.all)) (omega (arith, shallow le w, p.stands.few, i.1)) c.turn-s.ensures).1 in
    omega (arith, p.all)

pub loop-s-preserved : goal.loop-s-preserved
loop-s-preserved c = let p = c.requires in
    let i = c.loop-s.invariant in
    let le : c.args.places ≤ gone = omega (arith, p.few) in (
      c.area-1.given ∙ i.0,
      turned_slots c.turn-s.ensures ∙ i.1,
      λ t h e.
          let w = i.2 t h e in
          let more : c.loop-s.s.next < size t = omega (arith, c.loop-s-test.true) in
          (turned le w more (omega (arith, p.room)) (omega (arith, shallow le w, h.few, i.1)) c.turn-s.ensures).0,
    )

pub shape_of-area : goal.shape_of-area
shape_of-area c = c.loop-s.invariant.0

pub returns : goal.returns
returns c = let p = c.requires in
    let le : c.args.places ≤ gone = omega (arith, p.few) in
    nodes_put le (c.loop-s.invariant.2 p.t p.stands p.all) (omega (arith, p.all, c.loop-s-test.false)) p.stands
