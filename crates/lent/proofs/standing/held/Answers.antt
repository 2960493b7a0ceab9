-- The invariant: the walk is where the laws say, and x is what it asks for. The measure is the turns that are left. Assumes nothing.
use mathlib.Core.Path.{◌≡◌, refl, sym, ap, ◌∙◌}
use mathlib.Core.Bool.{true≢false}
use Prim.Native.Nat.{◌<◌, ◌≤◌}
use native.Mathlib.Omega.{arith}
use Rattle.table.specs.Cells.{cells, gone}
use Rattle.lent.specs.Lent.{cell_of}
use Rattle.lent.proofs.Copies.{same_cell}
use Rattle.lent.proofs.Walking.{Walking, turns, walk_start, walk_plain, walk_bytes, walk_turn, walk_end}
use Rattle.lent.proofs.standing.held.Goals as goal
use Rattle.lent.proofs.standing.held.Goals.{After-ask-x-in-loop-x}

pub loop-x-init : goal.loop-x-init
loop-x-init c = let a = c.args in
    let le : a.places ≤ gone = omega (arith, c.requires.0.1) in (
      refl,
      refl,
      refl,
      rw c.start-s.ensures (walk_start le a.dues.now a.bounds.now c.clear.new.marks c.clear.ensures),
      c.ask-x.ensures,
    )

pub returns-then-not-readable : goal.returns-then-not-readable
returns-then-not-readable c = let i = c.loop-x.invariant in
    let le : c.args.places ≤ gone = omega (arith, c.requires.0.1) in record {
      decided = walk_plain le i.3 i.4 c.loop-x-test.true (λ b. true≢false (sym (c.readable.ensures.1 b) ∙ c.if-not-readable.true));
      marked = λ e. absurd (true≢false (sym e));
    }

-- a turn
turned : (c : After-ask-x-in-loop-x)
    → Walking (cells c.args.words.now) c.args.places c.turn-s.new.dues c.turn-s.new.bounds
    c.turn-s.new.marks c.turn-s.result × (turns c.turn-s.result < turns c.loop-x.s)
turned c =
    let i = c.loop-x.invariant in
    let r = c.requires.1 in
    let le : c.args.places ≤ gone = omega (arith, c.requires.0.1) in
    let lt = c.loop-x-test.true in
    let e : cell_of c.node_of-d.result ≡ cells c.args.words.now c.loop-x.x =
    ap cell_of c.node_of-d.ensures ∙ same_cell _ (walk_bytes le i.3 i.4 lt (λ ne _. c.readable.ensures.0 c.if-not-readable.false ne)) in
    walk_turn le i.3 i.4 lt e
    record {
      dues = omega (arith, i.0, r.dues);
      bounds = omega (arith, i.1, r.bounds);
      marks = omega (arith, i.2, c.clear.auto.marks, r.marks);
    } c.turn-s.ensures

pub loop-x-smaller : goal.loop-x-smaller
loop-x-smaller c = (turned c).1

pub loop-x-preserved : goal.loop-x-preserved
loop-x-preserved c = let i = c.loop-x.invariant in
    let k = c.turn-s.auto in
    (k.dues ∙ i.0, k.bounds ∙ i.1, k.marks ∙ i.2, (turned c).0, c.ask-x-in-loop-x.ensures)

pub returns : goal.returns
returns c = let i = c.loop-x.invariant in
    let le : c.args.places ≤ gone = omega (arith, c.requires.0.1) in
    let e = walk_end le i.3 i.4 c.loop-x-test.false in record { decided = e.0; marked = e.1 }
