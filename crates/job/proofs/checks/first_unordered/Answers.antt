-- `first_unordered` meets its contract: by the search, where it is asked for. Assumes nothing.
use borrow.Author.Rules.{rules}
use mathlib.Core.Path.{◌≡◌}
use Rattle.rules.specs.Check.{first_fault, order_rule}
use Rattle.job.specs.Answer.{asked}
use Rattle.job.proofs.checks.first_unordered.Goals as goal

pub returns-then-not-has_order : goal.returns-then-not-has_order
unfolding asked
returns-then-not-has_order c = rw (← c.has_order.ensures, c.if-not-has_order.true)

pub returns : goal.returns
unfolding asked
returns c =
    let a = c.args in
    let f : c.first_that_fails-index.result ≡ first_fault (order_rule a.job.now a.l.tree) a.l.nodes 0 = search rules in
    rw (← c.has_order.ensures, c.if-not-has_order.false, ← f) c.found.ensures
