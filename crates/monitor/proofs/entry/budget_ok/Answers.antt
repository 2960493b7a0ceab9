-- `entry::budget_ok` meets its contract: it computes the rule. Assumes nothing.
use mathlib.Core.Path.{refl}
use Rattle.rules.specs.Outcome.{budget_rule}
use Rattle.monitor.proofs.entry.budget_ok.Goals as goal

pub returns : goal.returns
unfolding budget_rule
returns c = refl
