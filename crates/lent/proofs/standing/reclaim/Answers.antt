-- The invariant: the places with no mark from x on are free, and those with one keep their cells. Assumes nothing.
use mathlib.Core.Path.{◌≡◌, subst, ◌∙◌}
use Prim.Native.Nat.{◌+◌, ◌-◌}
use native.Mathlib.Omega.{arith}
use Rattle.table.specs.Cells.{cells}
use Rattle.lent.proofs.Reclaiming.{Spared, spared_pass, spared_more, spared_all}
use Rattle.lent.proofs.standing.reclaim.Goals as goal

pub loop-x-preserved-then-marks-x-eq0 : goal.loop-x-preserved-then-marks-x-eq0
loop-x-preserved-then-marks-x-eq0 c = let s = c.loop-x in
    let a = c.args in
    let lt = c.loop-x-test.true in
    let e : s.x ≡ (s.x - 1) + 1 = omega (arith, lt) in (
      c.spare.auto.words ∙ s.invariant.0,
      spared_more (subst (λ v. Spared (cells a.words.now) (cells s.words) a.places a.marks.now v s.free) e s.invariant.1)
          c.requires.0.1 (omega (arith, lt, s.auto.x)) c.if-marks-x-eq0.true c.spare.ensures,
    )

pub loop-x-preserved : goal.loop-x-preserved
loop-x-preserved c = let s = c.loop-x in
    let a = c.args in
    let e : s.x ≡ (s.x - 1) + 1 = omega (arith, c.loop-x-test.true) in (
      s.invariant.0,
      spared_pass (subst (λ v. Spared (cells a.words.now) (cells s.words) a.places a.marks.now v s.free) e s.invariant.1)
          (omega (arith, c.if-marks-x-eq0.false)),
    )

pub returns-clause-reclaimed : goal.returns-clause-reclaimed
returns-clause-reclaimed c = let s = c.loop-x in
    let a = c.args in
    let e : s.x ≡ 0 = omega (arith, c.loop-x-test.false) in
    spared_all c.requires.0.1 (subst (λ v. Spared (cells a.words.now) (cells s.words) a.places a.marks.now v s.free) e s.invariant.1)
