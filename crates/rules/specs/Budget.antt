-- R-14: a larger budget changes nothing said, for single jobs, for a standing tree and for runs that take turns. Assumes nothing.
use Rattle.std.specs.Prelude.{◌≡◌, ℕ, ◌≤◌, true}
use mathlib.Core.List.{List, [], ◌∷◌, IsPrefix}
use Rattle.rules.specs.Run.{Buffers, spent, stop_number, Ended}
use Rattle.rules.specs.Outcome.{budget_rule, Outcome, ran, answer, run_job, board_lines}
use Rattle.rules.specs.History.{Store, FollowOn, history, after_job}
use Rattle.rules.specs.Rounds.{Newcomer, Event, answers, reply_at}

-- "two budgets from 1 to 1,000,000", the second no smaller
pub record Raised (n m : ℕ) : Type 0 where
  pub smaller : budget_rule n ≡ true
  pub larger : budget_rule m ≡ true
  pub grows : n ≤ m

-- the ending is 25
abbrev pub Spent : Outcome → Type 0
Spent w = (answer w).ending ≡ stop_number spent

-- two outcomes: "an ending other than 25 under the smaller is the same under the larger, with all lines, variables, steps and the tree. After a 25, the lines are a
-- beginning of those under the larger budget, and the steps are no more."
pub record Prolonged (w x : Outcome) : Type 0 where
  pub same : (Spent w → ⊥) → w ≡ x
  pub lines : IsPrefix (board_lines w) (board_lines x)
  pub steps : (answer w).steps ≤ (answer x).steps

-- "for single jobs": "With the same job and buffers"
unfoldable pub JobBudgets : Type 0
JobBudgets = (b : List ℕ) (n m : ℕ) (lent : Buffers) → Raised n m → Prolonged (run_job b n lent) (run_job b m lent)

-- the same script and buffers, under a larger budget
pub record RaisedFollowOn (f g : FollowOn) : Type 0 where
  pub section : f.section ≡ g.section
  pub budget : Raised f.budget g.budget
  pub lent : f.lent ≡ g.lent

-- script by script, as far as both lists go
abbrev pub AllRaised : List FollowOn → List FollowOn → Type 0
AllRaised [] gs = Unit {0}
AllRaised (f ∷ fs) [] = Unit {0}
AllRaised (f ∷ fs) (g ∷ gs) = RaisedFollowOn f g × AllRaised fs gs

-- two histories, "up to and including the first 25"
abbrev pub ProlongedHistories : List Outcome → List Outcome → Type 0
ProlongedHistories [] xs = Unit {0}
ProlongedHistories (w ∷ ws) [] = Unit {0}
ProlongedHistories (w ∷ ws) (x ∷ xs) = Prolonged w x × ((Spent w → ⊥) → ProlongedHistories ws xs)

-- "for the standing tree"
unfoldable pub HistoryBudgets : Type 0
HistoryBudgets = (s : Store) (fs gs : List FollowOn) → AllRaised fs gs → ProlongedHistories (history s fs) (history s gs)

-- the same after a job, whose own run comes first
unfoldable pub JobHistoryBudgets : Type 0
JobHistoryBudgets =
    (b : List ℕ) (n m : ℕ) (lent : Buffers) (fs gs : List FollowOn) → Raised n m → AllRaised fs gs
    → ProlongedHistories (run_job b n lent ∷ history (after_job b n lent) fs) (run_job b m lent ∷ history (after_job b m lent) gs)

-- "for each run of R-13 that is taken in under both budgets", whatever goes on around it
unfoldable pub RoundsBudgets : Type 0
RoundsBudgets =
    (xs ys : List Event) (i j : ℕ) (g h : Newcomer) (e f : Ended) → reply_at xs i ≡ answers g (ran e) → reply_at ys j ≡ answers h (ran f)
    → g.job ≡ h.job → g.lent ≡ h.lent → g.budget ≤ h.budget → Prolonged (ran e) (ran f)
