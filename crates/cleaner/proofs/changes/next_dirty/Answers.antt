-- `next_dirty` meets its contract: no place passed is dirty. Assumes nothing.
use mathlib.Core.Path.{◌≡◌, sym, ap, ◌∙◌, refl}
use Prim.Native.Nat.{ℕ, ◌-◌}
use native.Mathlib.Omega.{arith}
use native.Mathlib.Numerals.{add-one}
use lib.ListN.{length}
use Rattle.rules.specs.Blocks.{first_from}
use Rattle.rules.specs.Clean.{is_dirty}
use Rattle.rules.proofs.Search.{here, further}
use Rattle.cleaner.specs.Cleaner.{next_place}
use Rattle.cleaner.proofs.changes.next_dirty.Goals as goal

pub loop-at-init : goal.loop-at-init
unfolding next_place
loop-at-init c = refl

pub returns-then-is_dirty : goal.returns-then-is_dirty
returns-then-is_dirty c = (sym (c.loop-at.invariant ∙ here _ _ _ c.loop-at-test.true (sym c.is_dirty.ensures ∙ c.if-is_dirty.true)), c.loop-at-test.true)

pub loop-at-preserved : goal.loop-at-preserved
loop-at-preserved c = c.loop-at.invariant ∙ further _ _ _ c.loop-at-test.true (sym c.is_dirty.ensures ∙ c.if-is_dirty.false) ∙ rw add-one

pub returns : goal.returns
unfolding first_from
returns c = let z : length c.args.job.now - c.loop-at.at ≡ 0 = omega (arith, c.loop-at-test.false) in
    let e = c.loop-at.invariant ∙ ap (λ (k : ℕ). first_from (is_dirty c.args.job.now) k c.loop-at.at) z in omega (arith, c.loop-at-test.false, e)
