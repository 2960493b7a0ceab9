-- `put_all` meets its contract: record by record. Assumes nothing.
use mathlib.Core.Path.{◌≡◌, refl}
use native.Mathlib.Omega.{arith}
use native.Mathlib.Numerals.{add-one}
use Rattle.arranger.proofs.Putting.{halfway_start, halfway_next, halfway_end, linked, own_below, parent_below, is_moved, small}
use Rattle.arranger.proofs.arranging.put_all.Goals as goal

pub new_parent-parent-requires : goal.new_parent-parent-requires
new_parent-parent-requires c = let q = c.requires in
    let l = linked _ _ _ _ _ q in
    let t = c.loop-i-test.true in
    (omega (arith, q.size, l.few), λ n. omega (arith, parent_below _ _ _ _ _ q c.loop-i.i n t, q.placed.size, l.few))

pub offset_bounds-own-i : goal.offset_bounds-own-i
offset_bounds-own-i c = omega (arith, c.loop-i-test.true, (linked _ _ _ _ _ c.requires).few)

pub bounds-own-i : goal.bounds-own-i
bounds-own-i c = let q = c.requires in omega (arith, c.loop-i-test.true, q.placed.size, (linked _ _ _ _ _ q).few)

pub put-requires : goal.put-requires
put-requires c = let q = c.requires in
    let l = linked _ _ _ _ _ q in
    let t = c.loop-i-test.true in (
      omega (arith, c.loop-i.invariant.long, l.inside, own_below _ _ _ _ _ q c.loop-i.i t),
      omega (arith, q.size, l.few),
      omega (arith, c.new_parent-parent.ensures, small _ _ _ _ _ q c.loop-i.i t),
    )

pub loop-i-init : goal.loop-i-init
loop-i-init c = halfway_start _ _ _ _

pub loop-i-preserved : goal.loop-i-preserved
loop-i-preserved c = let q = c.requires in
    let t = c.loop-i-test.true in
    rw add-one
    (halfway_next _ _ _ _ _ q c.loop-i.i _ _ _ _ t refl (rw c.new_parent-parent.ensures (is_moved _ _ _ _ _ q c.loop-i.i t)) c.loop-i.invariant c.put.ensures)

pub returns : goal.returns
returns c = let z : c.loop-i.i ≡ c.args.count = omega (arith, c.loop-i.auto.i-end, c.loop-i-test.false) in
    halfway_end _ _ _ _ _ _ c.requires (rw z at c.loop-i.invariant)
