-- A run has no more lines than steps, so no more than its budget: a step adds one at most. By induction on the budget. Assumes nothing.
use mathlib.Core.Path.{◌≡◌, refl}
use mathlib.Core.Bool.{true}
use mathlib.Core.Option.{Option, none, some}
use mathlib.Core.List.{List, [], ◌∷◌}
use Prim.Native.Nat.{ℕ, zero, suc, ◌+◌, ◌≤◌}
use native.Mathlib.Omega.{arith}
use lib.ListN.{length, length-append}
use lib.Dec.{leb}
use borrow.Author.Tests.{leb-true}
use Rattle.rules.specs.Limits.{max_budget, bad_budget}
use Rattle.rules.specs.Level.{Level}
use Rattle.rules.specs.Tree.{Forest, Place}
use Rattle.rules.specs.Script.{Expression, Action, Command, act, fetch}
use Rattle.rules.specs.Check.{Checked, accepted, refused}
use Rattle.rules.specs.Job.{Variable, script}
use Rattle.rules.specs.Run.{Memory, Block, State, Buffers, with_variables, with_tree, with_cursor, with_line, assign, output, move_to, go_joining, go_to, go_to_last, insert_at, remove_at, write, effect, stepped, raised, enter_if, enter_while, enter_back, leave_block, carried, step, start, run}
use Rattle.rules.specs.Outcome.{Outcome, rejected, ran, answer, check_job_by, check_job, budget_rule, begin, run_job}
use Rattle.rules.specs.History.{Store, FollowOn, check_follow_on, follow}
use Rattle.rules.proofs.Tests.{Test, holds, fails, test, both}
use Rattle.rules.proofs.Checks.{passed_one}
use Rattle.rules.proofs.Results.{Good, good_need, good_given, good_onward, good_leave, good_next}
use Rattle.rules.proofs.Runs.{more, run_spent, run_over, Turn, stops, goes, turn}
use Rattle.rules.proofs.Noninterference.{accepted_rest, turned_back_law, runs}
use Rattle.rules.proofs.Stores.{taken, followed, turned_away}

-- a memory with one line more at most
OneMore : Memory → Memory → Type 0
OneMore m m' = length m'.lines ≤ suc (length m.lines)

module _ (pc : Level) (m : Memory) where
  go_lines : (l : Place → Level) (q : Option Place) → Good (OneMore m) (go_joining pc m l q)
  unfolding OneMore go_joining move_to with_cursor
  go_lines l none = tt
  go_lines l (some p) = good_need (OneMore m) _ _ _ λ _. good_need (OneMore m) _ _ _ λ _. omega arith

  insert_lines : (places : ℕ) (p : Place) (q : Option Place) (c l : Level) (e : Expression) → Good (OneMore m) (insert_at pc m places p q c l e)
  unfolding OneMore insert_at with_tree
  insert_lines places p none c l e = tt
  insert_lines places p (some q) c l e =
      good_need (OneMore m) _ _ _ λ _. good_need (OneMore m) _ _ _ λ _. good_given (OneMore m) _ _ λ _.
      good_need (OneMore m) _ _ _ λ _. omega arith

  effect_lines : (lent : Buffers) (a : Action) → Good (OneMore m) (effect lent pc m a)
  unfolding OneMore effect assign output move_to go_to go_to_last remove_at write with_variables with_tree with_cursor with_line
  effect_lines lent Action.skip = omega arith
  effect_lines lent (Action.assign i e) = good_need (OneMore m) _ _ _ λ _. good_given (OneMore m) _ _ λ _. omega arith
  effect_lines lent (Action.output r e) =
      good_need (OneMore m) _ _ _ λ _. good_given (OneMore m) _ _ λ z. good_need (OneMore m) _ _ _ λ _.
      omega (arith, length-append m.lines (record { number = z; readers = r } ∷ []))
  effect_lines lent Action.goRoot = good_need (OneMore m) _ _ _ λ _. omega arith
  effect_lines lent Action.goParent = go_lines _ _
  effect_lines lent (Action.go d) = go_lines _ _
  effect_lines lent Action.goLeft = go_lines _ _
  effect_lines lent Action.goLast = go_lines _ _
  effect_lines lent (Action.insert d c l e) = insert_lines _ _ _ c l e
  effect_lines lent (Action.remove d) = good_need (OneMore m) _ _ _ λ _. good_need (OneMore m) _ _ _ λ _. omega arith
  effect_lines lent (Action.write e) = good_need (OneMore m) _ _ _ λ _. good_given (OneMore m) _ _ λ _. omega arith
  effect_lines lent (Action.raise l) = good_need (OneMore m) _ _ _ λ _. omega arith

module _ (lent : Buffers) (cs : List Command) where
  -- a state with one line more at most
  Next : State → State → Type 0
  Next s s' = length s'.memory.lines ≤ suc (length s.memory.lines)

  leave_lines : (s : State) (j : ℕ) (bs : List Block) → Good (Next s) (leave_block s j bs)
  unfolding OneMore Next leave_block stepped with_cursor
  leave_lines s j [] = omega arith
  leave_lines s j (b ∷ bs) =
      good_onward (OneMore s.memory) (Next s) s _ _ (λ m h. h) _
      (good_leave (OneMore s.memory) s.memory b.saved (omega arith) (λ x e p f. omega arith))

  carried_lines : (s : State) (j : ℕ) (c : Command) → Good (Next s) (carried s lent j c)
  unfolding OneMore Next carried enter_if enter_while enter_back raised with_cursor stepped
  carried_lines s j (act a) = good_onward (OneMore s.memory) (Next s) s _ _ (λ m h. h) _ (effect_lines _ s.memory lent a)
  carried_lines s j (Command.if e) = good_given (Next s) _ _ λ _. omega arith
  carried_lines s j (Command.while e) = good_given (Next s) _ _ λ _. omega arith
  carried_lines s j (Command.ifBack e) = good_given (Next s) _ _ λ _. omega arith
  carried_lines s j Command.else = omega arith
  carried_lines s j Command.end = leave_lines s j s.blocks

  step_lines : (s s' : State) → step lent cs s ≡ Rattle.rules.specs.Run.next s' → length s'.memory.lines ≤ suc (length s.memory.lines)
  unfolding step Next
  step_lines s s' e = good_next (Next s) _ s' e (carried_lines s _ (fetch cs s.at))

  -- a state with n lines more at most
  Within : ℕ → State → State → Type 0
  Within n s s' = length s'.memory.lines ≤ length s.memory.lines + n

  none_more : (s : State) → Test (more lent cs s) → Within zero s (run lent cs zero s).last
  unfolding Within
  none_more s (fails e) = rw (run_over lent cs zero s e) (omega arith)
  none_more s (holds e) = rw (run_spent lent cs s e) (omega arith)

  one_more_law : (n : ℕ) (s : State) → ((s' : State) → Within n s' (run lent cs n s').last) → Test (more lent cs s) → Within (suc n) s (run lent cs (suc n) s).last
  unfolding Within
  one_more_law n s r (fails e) = rw (run_over lent cs (suc n) s e) (omega arith)
  one_more_law n s r (holds e) = pick (turn lent cs n s e)
    where
      pick : Turn lent cs n s → Within (suc n) s (run lent cs (suc n) s).last
      pick (stops k h) = rw h (omega arith)
      pick (goes s' f h) = rw h (omega (arith, step_lines s s' f, r s'))

  within : (n : ℕ) (s : State) → Within n s (run lent cs n s).last
  within zero s = none_more s (test _)
  within (suc n) s = one_more_law n s (within n) (test _)

  run_few : (n : ℕ) (s : State) → length (run lent cs n s).last.memory.lines ≤ length s.memory.lines + n
  unfolding Within
  run_few n s = within n s

-- 9 lets no larger budget pass
passes : (n : ℕ) → budget_rule n ≡ true → n ≤ max_budget
unfolding budget_rule
passes n e = leb-true _ _ (both (leb 1 n) (leb n max_budget) e).1

job_spends : (b : List ℕ) (n : ℕ) (lent : Buffers) → check_job b n lent ≡ accepted → n ≤ max_budget
unfolding check_job check_job_by
job_spends b n lent e = passes n (passed_one bad_budget _ _ (accepted_rest _ _ e)).0

script_spends : (s : Store) (f : FollowOn) → check_follow_on s f ≡ accepted → f.budget ≤ max_budget
script_spends s f e = passes f.budget (taken s f e).spend

-- no outcome has more lines than a number's lower half holds: one that was turned back has none
abbrev pub Few : Outcome → Type 0
Few o = (answer o).lines ≤ max_budget

pub few_back : (k i : ℕ) → Few (rejected k i)
unfolding answer
few_back k i = omega arith

few_ran : (lent : Buffers) (cs : List Command) (n : ℕ) (vs : List Variable) (t : Forest) → n ≤ max_budget → Few (ran (run lent cs n (start vs t)))
unfolding answer start
few_ran lent cs n vs t h = omega (arith, run_few lent cs n (start vs t))

-- whatever becomes of a job
pub few_lines : (b : List ℕ) (n : ℕ) (lent : Buffers) → Few (run_job b n lent)
unfolding begin
few_lines b n lent = pick (check_job b n lent) refl
  where
    pick : (c : Checked) → check_job b n lent ≡ c → Few (run_job b n lent)
    pick accepted e = rw (runs b n lent e) (few_ran lent (script b) n _ _ (job_spends b n lent e))
    pick (refused k i) e = rw (turned_back_law b n lent e) (few_back k i)

-- and of a follow-on script
pub few_follow : (s : Store) (f : FollowOn) → Few (follow s f)
few_follow s f = pick (check_follow_on s f) refl
  where
    pick : (c : Checked) → check_follow_on s f ≡ c → Few (follow s f)
    pick accepted e = rw (followed s f e) (few_ran f.lent _ f.budget _ _ (script_spends s f e))
    pick (refused k i) e = rw (turned_away s f e) (few_back k i)
