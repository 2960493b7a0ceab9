-- `first_fault` meets its contract: each record passed is placed among the parts that are open at it, and has its word. Assumes nothing.
use mathlib.Core.Path.{◌≡◌, refl, sym, ap, ◌∙◌}
use Prim.Native.Nat.{ℕ, suc, ◌+◌}
use native.Mathlib.Omega.{arith}
use native.Mathlib.Numerals.{add-one}
use lib.Dec.{eqb}
use borrow.Author.Tests.{eq-eqb, ne_eqb}
use Rattle.rules.specs.Blocks.{parts, nest}
use Rattle.rules.proofs.Search.{scan_start, scan_next, scan_stop, scan_end}
use Rattle.rules.proofs.Parts.{rule_inside, rule_end}
use Rattle.job.specs.Parts.{stack, placed_at}
use Rattle.job.proofs.Stack.{depth, bottom}
use Rattle.job.proofs.Fill.{completed, as_many}
use borrow.Author.Rules.{rules}
use Rattle.job.proofs.blocks.first_fault.Goals as goal

pub loop-i-init : goal.loop-i-init
unfolding stack parts nest
loop-i-init c = (
  scan_start _ _,
  record { size = search rules; deep = search rules; same = refl },
  record { size = search rules; deep = search rules; same = refl },
  refl,
  record { each = λ k l. absurd (omega arith); spare = λ k l. refl },
)

pub block_ok-requires : goal.block_ok-requires
block_ok-requires c = record { inside = search rules; spells = c.loop-i.invariant.1 }

pub returns-then-not-block_ok : goal.returns-then-not-block_ok
unfolding placed_at
returns-then-not-block_ok c = let v = c.loop-i.invariant in
    (scan_stop _ _ v.0 (search rules) (rule_inside _ _ _ (search rules) ∙ sym c.block_ok.ensures ∙ c.if-not-block_ok.true), search rules, v.4)

pub advance-depth-requires : goal.advance-depth-requires
advance-depth-requires c = (
  record {
    stands = record { inside = search rules; spells = c.loop-i.invariant.1 };
    blocks = c.loop-i.invariant.2;
    passes = sym c.block_ok.ensures ∙ c.if-not-block_ok.false;
    few = search rules;
  },
  omega (arith, c.loop-i.invariant.3),
)

pub loop-i-preserved : goal.loop-i-preserved
unfolding placed_at
loop-i-preserved c = let v = c.loop-i.invariant in
    let s = c.advance-depth in (
      scan_next _ _ v.0 (search rules) (rule_inside _ _ _ (search rules) ∙ sym c.block_ok.ensures ∙ c.if-not-block_ok.false),
      rw add-one s.ensures.spells,
      rw add-one s.ensures.blocks,
      omega (arith, v.3),
      rw add-one (s.ensures.plans _ _ (search rules) v.4),
    )

pub returns-else-depth-eq0 : goal.returns-else-depth-eq0
returns-else-depth-eq0 c = let v = c.loop-i.invariant in
    let e : c.loop-i.i ≡ c.args.count = omega arith in
    let z = ap (λ (n : ℕ). eqb n 0) (depth _ _ _ v.1) ∙ ne_eqb _ 0 c.if-depth-eq0.false in
    (sym e ∙ scan_stop _ _ v.0 (search rules) (rule_end _ _ _ (search rules) ∙ z), search rules, as_many e v.4)

pub returns-then-depth-eq0 : goal.returns-then-depth-eq0
returns-then-depth-eq0 c = let v = c.loop-i.invariant in
    let e : c.loop-i.i ≡ c.args.count = omega arith in
    let r : suc c.args.count ≡ c.loop-i.i + 1 = omega arith in
    let z = ap (λ (n : ℕ). eqb n 0) (depth _ _ _ v.1) ∙ eq-eqb _ 0 c.if-depth-eq0.true in (
      r ∙ scan_end _ _ (scan_next _ _ v.0 (search rules) (rule_end _ _ _ (search rules) ∙ z)) (search rules),
      completed _ _ _ _ _ e (omega (arith, v.3)) (bottom _ _ _ v.1 c.if-depth-eq0.true) v.4,
    )
