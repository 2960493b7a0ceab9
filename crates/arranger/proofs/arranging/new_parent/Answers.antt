-- `new_parent` meets its contract: the test in order. Assumes nothing.
use native.Mathlib.Omega.{arith}
use borrow.Author.Tests.{eq-eqb, ne_eqb}
use Rattle.arranger.specs.Arranger.{new_parent}
use Rattle.arranger.proofs.arranging.new_parent.Goals as goal

pub returns-then-i-eq0 : goal.returns-then-i-eq0
unfolding new_parent
returns-then-i-eq0 c = rw (eq-eqb _ 0 c.if-i-eq0.true)

pub bounds-own-p : goal.bounds-own-p
bounds-own-p c = omega (arith, c.requires.1 c.if-i-eq0.false, c.parent_at-p.ensures.0)

pub returns : goal.returns
unfolding new_parent
returns c = rw (ne_eqb _ 0 c.if-i-eq0.false, c.parent_at-p.ensures.0)
