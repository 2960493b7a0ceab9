-- Each outcome has its ending and its line count, as the paper's answer has them. Assumes nothing.
use mathlib.Core.Path.{sym, ◌∙◌, ap, subst}
use Prim.Native.Nat.{◌≤◌}
use Rattle.rules.specs.Limits.{max_budget}
use Rattle.monitor.specs.declared.entry.Outcome.{Outcome}
use Rattle.monitor.specs.Promises.{answer_of}
use Rattle.portal.specs.Portal.{number_of}
use Rattle.portal.proofs.number.Goals as goal

pub packed-requires-in-Finished : goal.packed-requires-in-Finished
unfolding answer_of
packed-requires-in-Finished c = subst (λ (o : Outcome). (answer_of o).lines ≤ max_budget) c.in-Finished.is c.requires

pub packed-requires-in-Stopped : goal.packed-requires-in-Stopped
unfolding answer_of
packed-requires-in-Stopped c = subst (λ (o : Outcome). (answer_of o).lines ≤ max_budget) c.in-Stopped.is c.requires

pub returns-in-Refused : goal.returns-in-Refused
unfolding answer_of number_of
returns-in-Refused c = c.packed.ensures ∙ ap (λ (o : Outcome). number_of (answer_of o)) (sym c.in-Refused.is)

pub returns-in-Finished : goal.returns-in-Finished
unfolding answer_of number_of
returns-in-Finished c = c.packed-in-Finished.ensures ∙ ap (λ (o : Outcome). number_of (answer_of o)) (sym c.in-Finished.is)

pub returns-in-Stopped : goal.returns-in-Stopped
unfolding answer_of number_of
returns-in-Stopped c = c.packed-in-Stopped.ensures ∙ ap (λ (o : Outcome). number_of (answer_of o)) (sym c.in-Stopped.is)
