-- The tests in their order, the last of each level. Assumes nothing.
use Rattle.std.proofs.Common.{◌≡◌, true, false, rules}
use Rattle.std.proofs.lemmas.Iterator.{cases_from_all, YieldsList-from_slice}
use borrow.Author.Tests.{tests}
use Rattle.rules.specs.Level.{is_level}
use Rattle.monitor.proofs.Storing.{by_levels, by_tests}
use Rattle.monitor.proofs.follow.storable.Goals as goal

pub returns-then-levels-le-MAX_VARIABLES : goal.returns-then-levels-le-MAX_VARIABLES
returns-then-levels-le-MAX_VARIABLES c =
    by_levels c.all.result
    (cases_from_all _ _ c.all.result (λ x. is_level x ≡ true) (λ x. is_level x ≡ false) c.all.ensures.ran (YieldsList-from_slice c.args.levels.now cc)
    (λ x q k. search (rules, tests)) (λ x q k. search (rules, tests)))
    c.if-levels-le-MAX_VARIABLES.true

pub returns-else-levels-le-MAX_VARIABLES : goal.returns-else-levels-le-MAX_VARIABLES
returns-else-levels-le-MAX_VARIABLES c = by_tests _ (search rules) c.if-levels-le-MAX_VARIABLES.either
