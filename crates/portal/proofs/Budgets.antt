-- R-14 of two calls, from their contract alone and from the rules' outcomes under two budgets. Assumes nothing.
use mathlib.Core.Path.{◌≡◌, sym, ◌∙◌, ap}
use mathlib.Core.List.{List}
use Prim.Native.Nat.{ℕ, ◌*◌}
use lib.ListN.{length, take}
use Rattle.rules.specs.Outcome.{run_job, board_lines}
use Rattle.rules.specs.Budget.{Raised, Prolonged, JobBudgets}
use Rattle.rules.proofs.Budget.{job_budgets}
use Rattle.actions.specs.Board.{spell}
use Rattle.actions.proofs.Board.{spell_prefix, written_lines}
use Rattle.portal.specs.Portal.{buffers_for, Handed, hand_back, portal}
use Rattle.portal.specs.Budgets.{all_lines, ProlongedPortal, PortalBudgets}
use Rattle.portal.proofs.Secret.{ending_is, count_is}

-- all lines of a call
all_are : (b : List ℕ) (n : ℕ) (area : List ℕ) (h : Handed) → h ≡ portal b n area → all_lines h ≡ spell (board_lines (run_job b n (buffers_for area)))
unfolding all_lines portal hand_back
all_are b n area h is =
    ap (λ (k : ℕ). take (5 * k) h.area) (count_is b n area h is)
    ∙ ap (λ (k : Handed). take (5 * length (board_lines (run_job b n (buffers_for area)))) k.area) is ∙ written_lines _ area

module _ (b : List ℕ) (n m : ℕ) (area : List ℕ) (h k : Handed) (p : h ≡ portal b n area) (q : k ≡ portal b m area) (r : Raised n m) where
  outcomes : Prolonged (run_job b n (buffers_for area)) (run_job b m (buffers_for area))
  unfolding JobBudgets
  outcomes = job_budgets b n m (buffers_for area) r

  prolonged : ProlongedPortal h k
  unfolding portal
  prolonged =
      record {
        same = λ z. p ∙ ap (λ w. hand_back w area) (outcomes.same (λ e. z (ending_is b n area h p ∙ e))) ∙ sym q;
        lines = rw (all_are b n area h p, all_are b m area k q) (spell_prefix _ _ outcomes.lines);
      }

pub portal_budgets : PortalBudgets
unfolding PortalBudgets
portal_budgets = prolonged
