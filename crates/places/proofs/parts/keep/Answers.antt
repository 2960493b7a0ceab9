-- `parts::keep` meets its contract: what is lent are the parts of the place. Assumes nothing.
use mathlib.Core.Path.{refl, ◌∙◌}
use Prim.Native.Nat.{◌+◌, ◌*◌, ◌≤◌}
use native.Mathlib.Nat.{le_refl}
use native.Mathlib.Omega.{arith}
use lib.ListN.{length}
use borrow.Rule.Slice.PartMut.{mid_len}
use Rattle.rules.specs.Limits.{max_bytes}
use Rattle.places.specs.Pieces.{plan_size}
use Rattle.places.proofs.Cuts.{Cut, filled}
use borrow.Author.Rules.{rules}
use Rattle.places.proofs.parts.keep.Goals as goal

pub returns : goal.returns
returns c = let i = c.args.i in
    let b = c.args.job.now in
    let l = c.requires.0 in
    let s = c.requires.1 in
    let e = c.requires.2 in
    let f = c.requires.3 in
    let h : max_bytes * i + length b ≤ length c.args.jobs.now = omega (arith, l, s, e) in
    let k : plan_size * i + plan_size ≤ length c.args.plans.now = omega (arith, l, f) in
    let cj : Cut max_bytes i (length b) (max_bytes * i) (max_bytes * i + length b) = record { from = refl; to = refl; short = s } in
    let cp : Cut plan_size i plan_size (plan_size * i) (plan_size * i + plan_size) = record { from = refl; to = refl; short = le_refl _ } in
    (filled 0 _ i _ _ _ _ _ cj h (c.copy_from_slice.ensures.len ∙ mid_len _ _ _ h) _ c.copy_from_slice.ensures.after refl, filled 0 _ i _ _ _ _ _ cp k (c.copy_from_slice-2.ensures.len ∙ mid_len _ _ _ k) _ c.copy_from_slice-2.ensures.after (search rules), search rules)
