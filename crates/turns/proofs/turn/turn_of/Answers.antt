-- The run with the turn's steps, and the two ways it comes out. Assumes nothing.
use mathlib.Core.Path.{refl, ap}
use native.Mathlib.Omega.{arith}
use lib.Dec.{eqb}
use Rattle.actions.specs.Shows.{slices}
use Rattle.turns.proofs.Turning.{more_left, startable_with, goes, ends}
use Rattle.turns.proofs.turn.turn_of.Goals as goal

pub run_from-a-requires : goal.run_from-a-requires
run_from-a-requires c = startable_with _ (slices _ _ _ _) _ _ _ _ c.with_left.ensures c.requires.0

pub overflow_sub-left : goal.overflow_sub-left
overflow_sub-left c = let m = more_left (eqb c.run_from-a.result.stop 25) c.args.r.left c.if-a-left.true in omega (arith, m)

pub returns-then-a-left : goal.returns-then-a-left
returns-then-a-left c = goes _ (slices _ _ _ _) (slices _ _ _ _) _ _ _ _ _ _ c.min-steps.ensures c.with_left.ensures _ c.run_from-a.ensures c.lines-1.given refl c.if-a-left.true _ c.with_left-then-a-left.ensures

pub overflow_sub-budget : goal.overflow_sub-budget
overflow_sub-budget c = omega (arith, c.requires.1)

pub ended-requires : goal.ended-requires
ended-requires c = let e = c.run_from-a.ensures.early in
    let w = ap (λ y. y.left) c.with_left.ensures in
    (omega (arith, e, w, c.min-steps.ensures, c.requires.1), omega (arith, c.min-steps.ensures, c.requires.1, c.requires.2))

pub returns : goal.returns
returns c = ends _ (slices _ _ _ _) (slices _ _ _ _) _ _ _ _ _ _ c.min-steps.ensures c.with_left.ensures _ c.run_from-a.ensures c.lines-1.given refl c.if-a-left.false _ c.ended.ensures
