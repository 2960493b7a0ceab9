-- What the monitor's runs promise, as what a portal is handed back: an outcome's line count fits into the number, and a run with buffers of its own leaves
-- what the rules' run gives. Assumes nothing.
use mathlib.Core.Path.{◌≡◌, ◌∙◌, ap, ap₂}
use mathlib.Core.List.{List}
use Prim.Native.Nat.{ℕ, ◌≤◌}
use Rattle.rules.specs.Limits.{max_budget, bad_follow_on}
use Rattle.rules.specs.Outcome.{answer, run_job}
use Rattle.monitor.specs.declared.entry.Outcome.{Outcome}
use Rattle.monitor.specs.Promises.{answer_of, Lent, lent_by, places_in, Tree, Promises, largest, PromisesLines}
use Rattle.monitor.specs.Follow.{follow_on, StandsIn, Follows, over, none}
use Rattle.monitor.proofs.Answered.{answers}
use Rattle.portal.specs.Portal.{buffers_for, number_of, handed, hand_back, portal}
use Rattle.portal.proofs.Counted.{few_lines, few_follow, few_back}

-- the line count of an outcome that keeps a promise
module _ {b : List ℕ} {budget : ℕ} {x x' : Lent (List ℕ)} {o : Outcome} where
  pub few_started : Promises places_in Tree b budget x x' o → (answer_of o).lines ≤ max_budget
  few_started p = rw p.answered (few_lines b budget (lent_by places_in x))

  pub few_followed : Follows places_in Tree StandsIn b budget x x' o → (answer_of o).lines ≤ max_budget
  few_followed (over s h t k) = rw t.answered (few_follow s (follow_on places_in b budget x))
  few_followed (none h t) = rw t.answered (few_back bad_follow_on 0)

module _ (b : List ℕ) (budget : ℕ) (area area' : List ℕ) (o : Outcome) (p : PromisesLines b budget area area' o) where
  answered : answer_of o ≡ answer (run_job b budget (buffers_for area))
  unfolding largest buffers_for
  answered = ap answer_of p.outcome ∙ answers (run_job b budget (buffers_for area))

  pub few : (answer_of o).lines ≤ max_budget
  few = rw answered (few_lines b budget (buffers_for area))

  pub hands : (r : ℕ) → r ≡ number_of (answer_of o) → handed r area' ≡ portal b budget area
  unfolding portal hand_back largest buffers_for
  hands r e = ap₂ handed (e ∙ ap number_of answered) p.lines
