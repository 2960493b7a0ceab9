-- `first_that_fails` meets its contract: whatever the test says at each record, those passed hold by it. Assumes nothing.
use mathlib.Core.Path.{◌≡◌, sym, ◌∙◌}
use native.Mathlib.Omega.{arith}
use Rattle.rules.proofs.Search.{scan_start, scan_next, scan_stop, scan_end}
use Rattle.fields.proofs.scan.first_that_fails.Goals as goal

pub loop-i-init : goal.loop-i-init
loop-i-init g c = λ p h. scan_start _ _

pub returns-then-not-passes : goal.returns-then-not-passes
returns-then-not-passes g c = λ p h. scan_stop _ _ (c.loop-i.invariant p h) c.loop-i-test.true (sym (h _ _ c.loop-i-test.true c.passes.ensures) ∙ c.if-not-passes.true)

pub loop-i-preserved : goal.loop-i-preserved
loop-i-preserved g c = λ p h. scan_next _ _ (c.loop-i.invariant p h) c.loop-i-test.true (sym (h _ _ c.loop-i-test.true c.passes.ensures) ∙ c.if-not-passes.false)

pub returns : goal.returns
returns g c = λ p h. let e : c.args.count ≡ c.loop-i.i = omega arith in e ∙ scan_end _ _ (c.loop-i.invariant p h) c.loop-i-test.false
