-- The last of the blocks that come back, if there is one: its node stands at its place, or has gone. Assumes nothing.
use mathlib.Core.Path.{◌≡◌, sym, ap, subst, ◌∙◌}
use mathlib.Core.Logic.{inl, inr}
use Prim.Native.Nat.{◌-◌, ◌<◌}
use native.Mathlib.Omega.{arith}
use borrow.Author.Tests.{leb-true, leb-false}
use Rattle.table.specs.Since.{number}
use Rattle.actions.specs.Marks.{count_at, place_at, level_at}
use Rattle.actions.proofs.Remembered.{recalls_none, recalls_one}
use Rattle.actions.proofs.marks.recall.Goals as goal
use Rattle.actions.proofs.marks.recall.Goals.{then-place-places-via-then-place-places, then-place-places-via-else-place-places+then-not-stands}

pub returns-then-place-places : goal.returns-then-place-places
returns-then-place-places c = let ks = c.args.marks.now in
    let i : c.from-k.result ≡ number ks count_at - 1 = c.from-k.ensures ∙ c.saturating_sub-last.ensures in
    let x : c.from-place.result ≡ number ks (place_at (number ks count_at - 1)) = c.from-place.ensures ∙ ap (λ z. number ks (place_at z)) i in
    recalls_none _ _
    (λ d. elim c.then-place-places.branch [
      | then-place-places-via-then-place-places w ↦ inl (omega (arith, x, w.if-place-places.true))
      | then-place-places-via-else-place-places+then-not-stands w ↦
          (let l = leb-false (number ks c.from-place.result) c.saturating_sub-last.result (sym w.stands.ensures ∙ w.if-not-stands.true) in
          inr (subst (λ z. number ks count_at - 1 < number ks z) x (omega (arith, l, c.saturating_sub-last.ensures))))
    ])

pub returns : goal.returns
returns c = let ks = c.args.marks.now in
    let i : c.from-k.result ≡ number ks count_at - 1 = c.from-k.ensures ∙ c.saturating_sub-last.ensures in
    let l = leb-true (number ks c.from-place.result) c.saturating_sub-last.result (sym c.stands.ensures ∙ c.if-not-stands.false) in
    recalls_one _ _ _ (c.from-place.ensures ∙ ap (λ z. number ks (place_at z)) i) (c.from-level.ensures ∙ ap (λ z. number ks (level_at z)) i)
    c.if-place-places.false (omega (arith, l, c.saturating_sub-last.ensures))
