-- `pool::turn_at` meets its contract: what is lent are the parts of the place. Assumes nothing.
use mathlib.Core.Path.{refl, ◌∙◌}
use Prim.Native.Nat.{◌+◌, ◌*◌, ◌≤◌}
use native.Mathlib.Omega.{arith}
use native.Mathlib.Nat.{le_refl}
use borrow.Rule.Slice.PartMut.{mid_len}
use Rattle.rules.specs.Limits.{max_bytes, max_variables}
use Rattle.actions.specs.Marks.{marks_size}
use Rattle.places.specs.Pieces.{plan_size}
use Rattle.turns.specs.Pool.{table_size, area_size}
use Rattle.places.proofs.Cuts.{Cut, inside}
use Rattle.turns.proofs.Places.{startable_there, turn_there}
use lib.ListN.{length}
use Rattle.turns.proofs.pool.turn_at.Goals as goal

pub turn_of-requires : goal.turn_of-requires
turn_of-requires c = let i = c.args.i in
    let r = c.args.place in
    let z = c.requires.1 in
    let few = z.lines in
    let cj : Cut max_bytes i r.bytes (max_bytes * i) (max_bytes * i + r.bytes) = record { from = refl; to = refl; short = z.bytes } in
    let cp : Cut plan_size i plan_size (plan_size * i) (plan_size * i + plan_size) = record { from = refl; to = refl; short = le_refl _ } in
    let cv : Cut max_variables i max_variables (max_variables * i) (max_variables * i + max_variables) = record { from = refl; to = refl; short = le_refl _ } in
    let cw : Cut table_size i table_size (table_size * i) (table_size * i + table_size) = record { from = refl; to = refl; short = le_refl _ } in
    let cb : Cut area_size i (5 * r.capacity) (area_size * i) (area_size * i + 5 * r.capacity) = record { from = refl; to = refl; short = omega (arith, few) } in
    let cm : Cut marks_size i marks_size (marks_size * i) (marks_size * i + marks_size) = record { from = refl; to = refl; short = le_refl _ } in
    let h = c.requires.4 in
    (startable_there i r _ _ _ _ _ _ _ _ _ _ _ _ _ _ _ _ _ _ _ cj cp cv cw cb cm h, h.left, h.spend)

pub returns : goal.returns
returns c = let i = c.args.i in
    let r = c.args.place in
    let z = c.requires.1 in
    let few = z.lines in
    let cj : Cut max_bytes i r.bytes (max_bytes * i) (max_bytes * i + r.bytes) = record { from = refl; to = refl; short = z.bytes } in
    let cp : Cut plan_size i plan_size (plan_size * i) (plan_size * i + plan_size) = record { from = refl; to = refl; short = le_refl _ } in
    let cv : Cut max_variables i max_variables (max_variables * i) (max_variables * i + max_variables) = record { from = refl; to = refl; short = le_refl _ } in
    let cw : Cut table_size i table_size (table_size * i) (table_size * i + table_size) = record { from = refl; to = refl; short = le_refl _ } in
    let cb : Cut area_size i (5 * r.capacity) (area_size * i) (area_size * i + 5 * r.capacity) = record { from = refl; to = refl; short = omega (arith, few) } in
    let cm : Cut marks_size i marks_size (marks_size * i) (marks_size * i + marks_size) = record { from = refl; to = refl; short = le_refl _ } in
    let l = c.requires.0 in
    let s = c.requires.2 in
    let e = c.requires.3 in
    let x = s.words in
    let y = s.values in
    let m = s.marks in
    let iw : table_size * i + table_size ≤ length c.args.words.now = inside table_size i table_size _ l (le_refl _) x in
    let iv : max_variables * i + max_variables ≤ length c.args.values.now = inside max_variables i max_variables _ l (le_refl _) y in
    let ib : area_size * i + 5 * r.capacity ≤ length c.args.lines.now = inside area_size i (5 * r.capacity) _ l (omega (arith, few)) e in
    let im : marks_size * i + marks_size ≤ length c.args.marks.now = inside marks_size i marks_size _ l (le_refl _) m in
    turn_there i r _ _ _ _ _ _ _ _ _ _ _ _ _ _ _ _ _ _ _ cj cp cv cw cb cm _ _ _ _ _ iw iv ib im (c.words-1.given.0 ∙ mid_len _ _ _ iw)
    (c.values-1.given.0 ∙ mid_len _ _ _ iv) (c.lines-1.given.0 ∙ mid_len _ _ _ ib) (c.marks-1.given.0 ∙ mid_len _ _ _ im) c.turn_of.ensures

pub slice_bounds-turn_of-end : goal.slice_bounds-turn_of-end
slice_bounds-turn_of-end c = inside max_bytes _ _ _ c.requires.0 c.requires.1.bytes c.requires.2.jobs

pub slice_bounds-turn_of-end-2 : goal.slice_bounds-turn_of-end-2
slice_bounds-turn_of-end-2 c = inside plan_size _ _ _ c.requires.0 (le_refl _) c.requires.2.plans

pub slice_bounds-turn_of-end-3 : goal.slice_bounds-turn_of-end-3
slice_bounds-turn_of-end-3 c = inside max_variables _ _ _ c.requires.0 (le_refl _) c.requires.2.levels

pub slice_bounds-turn_of-end-4 : goal.slice_bounds-turn_of-end-4
slice_bounds-turn_of-end-4 c = inside table_size _ _ _ c.requires.0 (le_refl _) c.requires.2.words

pub slice_bounds-turn_of-end-5 : goal.slice_bounds-turn_of-end-5
slice_bounds-turn_of-end-5 c = inside max_variables _ _ _ c.requires.0 (le_refl _) c.requires.2.values

pub slice_bounds-turn_of-end-6 : goal.slice_bounds-turn_of-end-6
slice_bounds-turn_of-end-6 c = let few = c.requires.1.lines in inside area_size _ _ _ c.requires.0 (omega (arith, few)) c.requires.3

pub slice_bounds-turn_of-end-7 : goal.slice_bounds-turn_of-end-7
slice_bounds-turn_of-end-7 c = inside marks_size _ _ _ c.requires.0 (le_refl _) c.requires.2.marks

pub shape_of-words : goal.shape_of-words
shape_of-words c = (returns c).1.words.long

pub shape_of-values : goal.shape_of-values
shape_of-values c = (returns c).1.values.long

pub shape_of-lines : goal.shape_of-lines
shape_of-lines c = (returns c).1.lines.long

pub shape_of-marks : goal.shape_of-marks
shape_of-marks c = (returns c).1.marks.long
