-- `left_of` meets its contract: what is found below node i is what is found where the search starts and where it has come to, and nothing is found
-- up to the parent. Assumes nothing.
use mathlib.Core.Path.{sym, ◌∙◌}
use native.Mathlib.Omega.{arith}
use Rattle.rules.proofs.Nearest.{near_found, near_passed}
use Rattle.fields.proofs.Siblings.{none_before, parent_below, search_start}
use borrow.Author.Rules.{rules}
use Rattle.fields.proofs.nodes.left_of.Goals as goal

pub start-k-requires : goal.start-k-requires
start-k-requires c = let q = c.requires in
    let h = parent_below _ _ _ q.1 _ q.2 q.0 in omega (arith, c.parent_at-p.ensures.0, q.1.few, q.2.size)

pub loop-k-init : goal.loop-k-init
loop-k-init c = let q = c.requires in
    let e = c.parent_at-p.ensures.0 in rw e (search_start _ _ _ q.1 _ q.2 q.0 (rw e at c.start-k.ensures))

pub loop-k-preserved : goal.loop-k-preserved
loop-k-preserved c = let v = c.loop-k.invariant in
    let n = c.if-k-p.false in (
      omega arith,
      search rules,
      v.2 ∙ near_passed _ _ _ _ (λ z. omega arith) (λ e. c.if-parent_at-p.false (c.parent_at.ensures.0 ∙ e)),
    )

pub returns-then-k-p : goal.returns-then-k-p
returns-then-k-p c = let q = c.requires.1 in
    let v = c.loop-k.invariant in
    let e = c.if-k-p.true in
    rw (← c.parent_at-p.ensures.0)
    (sym (v.2 ∙ none_before _ _ _ (omega (arith, q.few)) _ (omega arith) (λ j l. q.parents j (omega arith))))

pub returns-then-parent_at-p : goal.returns-then-parent_at-p
returns-then-parent_at-p c = let v = c.loop-k.invariant in
    rw (← c.parent_at-p.ensures.0)
    (sym (v.2 ∙ near_found _ _ _ _ (λ z. omega arith) (sym c.parent_at.ensures.0 ∙ c.if-parent_at-p.true)))
