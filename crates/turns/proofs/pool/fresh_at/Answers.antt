-- `pool::fresh_at` meets its contract: what is lent are the parts of the place. Assumes nothing.
use mathlib.Core.Path.{refl, ◌∙◌}
use Prim.Native.Nat.{◌+◌, ◌*◌, ◌≤◌}
use native.Mathlib.Omega.{arith}
use native.Mathlib.Nat.{le_refl}
use borrow.Rule.Slice.PartMut.{mid_len}
use Rattle.rules.specs.Limits.{max_variables}
use Rattle.actions.specs.Marks.{marks_size}
use Rattle.turns.specs.Pool.{table_size}
use Rattle.places.proofs.Cuts.{Cut, inside}
use lib.ListN.{length}
use Rattle.turns.proofs.Places.{room_there, fresh_there}
use Rattle.turns.proofs.pool.fresh_at.Goals as goal

pub fresh-requires : goal.fresh-requires
fresh-requires c = let i = c.args.i in
    let cv : Cut max_variables i max_variables (max_variables * i) (max_variables * i + max_variables) = record { from = refl; to = refl; short = le_refl _ } in
    let cw : Cut table_size i table_size (table_size * i) (table_size * i + table_size) = record { from = refl; to = refl; short = le_refl _ } in
    let cm : Cut marks_size i marks_size (marks_size * i) (marks_size * i + marks_size) = record { from = refl; to = refl; short = le_refl _ } in
    let p = c.requires in
    let l = p.0 in
    let x = p.1 in
    let v = p.2 in
    let y = p.3 in
    let m = p.4 in
    let im : marks_size * i + marks_size ≤ length c.args.marks.now = inside marks_size i marks_size _ l (le_refl _) m in
    let w = mid_len (marks_size * i) (marks_size * i + marks_size) c.args.marks.now im in
    (room_there i _ _ _ c.args.marks.now _ _ _ _ _ _ cv cw cm _ _ p.5, omega (arith, w))

pub returns : goal.returns
returns c = let i = c.args.i in
    let cv : Cut max_variables i max_variables (max_variables * i) (max_variables * i + max_variables) = record { from = refl; to = refl; short = le_refl _ } in
    let cw : Cut table_size i table_size (table_size * i) (table_size * i + table_size) = record { from = refl; to = refl; short = le_refl _ } in
    let cm : Cut marks_size i marks_size (marks_size * i) (marks_size * i + marks_size) = record { from = refl; to = refl; short = le_refl _ } in
    let p = c.requires in
    let l = p.0 in
    let x = p.1 in
    let v = p.2 in
    let y = p.3 in
    let m = p.4 in
    let iw : table_size * i + table_size ≤ length c.args.words.now = inside table_size i table_size _ l (le_refl _) x in
    let il : max_variables * i + max_variables ≤ length c.args.levels.now = inside max_variables i max_variables _ l (le_refl _) v in
    let iv : max_variables * i + max_variables ≤ length c.args.values.now = inside max_variables i max_variables _ l (le_refl _) y in
    let im : marks_size * i + marks_size ≤ length c.args.marks.now = inside marks_size i marks_size _ l (le_refl _) m in
    fresh_there i _ _ _ _ _ _ _ _ _ _ cv cw cm _ _ _ _ _ _ _ _ c.fresh.ensures iw il iv im (c.words-1.given.0 ∙ mid_len _ _ _ iw)
    (c.levels-1.given.0 ∙ mid_len _ _ _ il) (c.values-1.given.0 ∙ mid_len _ _ _ iv) (c.marks-1.given.0 ∙ mid_len _ _ _ im)

pub slice_bounds-fresh-end : goal.slice_bounds-fresh-end
slice_bounds-fresh-end c = inside table_size _ table_size _ c.requires.0 (le_refl _) c.requires.1

pub slice_bounds-fresh-end-2 : goal.slice_bounds-fresh-end-2
slice_bounds-fresh-end-2 c = inside max_variables _ max_variables _ c.requires.0 (le_refl _) c.requires.2

pub slice_bounds-fresh-end-3 : goal.slice_bounds-fresh-end-3
slice_bounds-fresh-end-3 c = inside max_variables _ max_variables _ c.requires.0 (le_refl _) c.requires.3

pub slice_bounds-fresh-end-4 : goal.slice_bounds-fresh-end-4
slice_bounds-fresh-end-4 c = inside marks_size _ marks_size _ c.requires.0 (le_refl _) c.requires.4

pub shape_of-words : goal.shape_of-words
shape_of-words c = (returns c).1.long

pub shape_of-levels : goal.shape_of-levels
shape_of-levels c = (returns c).2.long

pub shape_of-values : goal.shape_of-values
shape_of-values c = (returns c).3.long

pub shape_of-marks : goal.shape_of-marks
shape_of-marks c = (returns c).4.long
