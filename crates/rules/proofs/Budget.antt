-- R-14: a run with a larger budget goes on where the smaller was spent, and is the same otherwise; the checks do not tell two budgets in range apart; and
-- until the first 25 all is the same, so what stands is the same; a run that takes turns is as it is alone. Assumes nothing.
use mathlib.Core.Path.{◌≡◌, refl, sym, ◌∙◌, ap, subst}
use Prim.Native.Nat.{ℕ, ◌+◌, ◌-◌, ◌≤◌}
use native.Mathlib.Omega.{arith}
use mathlib.Core.List.{List, [], ◌∷◌}
use Rattle.rules.specs.Script.{Command}
use Rattle.rules.specs.Check.{Checked, accepted, refused}
use Rattle.rules.specs.Job.{script}
use Rattle.rules.specs.Run.{State, Buffers, spent, Ended, start, run}
use Rattle.rules.specs.Outcome.{check_job_by, check_job, Outcome, ran, begin, run_job, ending_number, answer, board_lines}
use Rattle.rules.specs.History.{Store, FollowOn, section_script, check_follow_on, follow, leaves, after, history, job_store, after_job}
use Rattle.rules.specs.Rounds.{Newcomer, alone, AsAlone}
use Rattle.rules.specs.Budget.{Raised, Prolonged, JobBudgets, RaisedFollowOn, AllRaised, ProlongedHistories, HistoryBudgets, JobHistoryBudgets, RoundsBudgets}
use Rattle.rules.proofs.Runs.{halted, Longer, same, further, longer}
use Rattle.rules.proofs.Lines.{extends_refl, run_longer}
use Rattle.rules.proofs.Steps.{run_within}
use Rattle.rules.proofs.Noninterference.{turned_back_law, runs}
use Rattle.rules.proofs.Stores.{followed, turned_away}
use Rattle.rules.proofs.Rounds.{alone_taken, budget_right, as_alone}

prolonged_further : (lent : Buffers) (cs : List Command) (k : ℕ) (t : State) → Prolonged (ran (halted spent t)) (ran (run lent cs k t))
unfolding answer board_lines ending_number
prolonged_further lent cs k t =
    record { same = λ n. absurd (n refl); lines = (run_longer lent cs k t).prefix; steps = (run_within lent cs k t).least }

prolonged_same : (w x : Outcome) → w ≡ x → Prolonged w x
prolonged_same w x q =
    record {
      same = λ _. q;
      lines = (extends_refl (ap board_lines q)).prefix;
      steps = let k = ap (λ y. (answer y).steps) q in omega arith;
    }

module _ (lent : Buffers) (cs : List Command) where
  prolonged_longer : (n k : ℕ) (s : State) → Longer lent cs n k s → Prolonged (ran (run lent cs n s)) (ran (run lent cs (n + k) s))
  prolonged_longer n k s (same q) = prolonged_same _ _ (ap ran (sym q))
  prolonged_longer n k s (further t p q) = rw (p, q) (prolonged_further lent cs k t)

  -- a run under two budgets
  pub prolonged : (n m : ℕ) (s : State) → n ≤ m → Prolonged (ran (run lent cs n s)) (ran (run lent cs m s))
  prolonged n m s h =
      let q : n + (m - n) ≡ m = omega arith in
      subst (λ x. Prolonged (ran (run lent cs n s)) (ran (run lent cs x s))) q (prolonged_longer n (m - n) s (longer lent cs n (m - n) s))

-- a job

module _ (b : List ℕ) (n m : ℕ) (lent : Buffers) (r : Raised n m) where
  same_check : check_job b n lent ≡ check_job b m lent
  unfolding check_job check_job_by
  same_check = rw (r.smaller, r.larger)

  one_job : Prolonged (run_job b n lent) (run_job b m lent)
  one_job = pick (check_job b n lent) refl
    where
      pick : (c : Checked) → check_job b n lent ≡ c → Prolonged (run_job b n lent) (run_job b m lent)
      pick accepted e = rw (runs b n lent e, runs b m lent (sym same_check ∙ e)) (prolonged lent (script b) n m (begin b) r.grows)
      pick (refused k i) e = prolonged_same _ _ (turned_back_law b n lent e ∙ sym (turned_back_law b m lent (sym same_check ∙ e)))

pub job_budgets : JobBudgets
unfolding JobBudgets
job_budgets = one_job

-- a script over a store

-- by its section, budget and buffers
abbrev bare : List ℕ → Buffers → ℕ → FollowOn
bare b lent n = record { section = b; budget = n; lent = lent }

module _ (s : Store) (b : List ℕ) (lent : Buffers) (n m : ℕ) (r : Raised n m) where
  same_script_check : check_follow_on s (bare b lent n) ≡ check_follow_on s (bare b lent m)
  unfolding check_follow_on
  same_script_check = rw (r.smaller, r.larger)

  one_section : Prolonged (follow s (bare b lent n)) (follow s (bare b lent m))
  one_section = pick (check_follow_on s (bare b lent n)) refl
    where
      pick : (c : Checked) → check_follow_on s (bare b lent n) ≡ c → Prolonged (follow s (bare b lent n)) (follow s (bare b lent m))
      pick accepted e =
          rw (followed s (bare b lent n) e, followed s (bare b lent m) (sym same_script_check ∙ e))
          (prolonged lent (section_script b) n m (start s.variables s.tree) r.grows)
      pick (refused k i) e =
          prolonged_same _ _ (turned_away s (bare b lent n) e ∙ sym (turned_away s (bare b lent m) (sym same_script_check ∙ e)))

one_script : (s : Store) (f g : FollowOn) → RaisedFollowOn f g → Prolonged (follow s f) (follow s g)
one_script s f g r =
    let q : bare f.section f.lent g.budget ≡ g = λ i. record { section = r.section i; budget = g.budget; lent = r.lent i } in
    subst (λ x. Prolonged (follow s f) (follow s x)) q (one_section s f.section f.lent f.budget g.budget r.budget)

-- script after script

scripts : (fs gs : List FollowOn) (s : Store) → AllRaised fs gs → ProlongedHistories (history s fs) (history s gs)
unfolding history after
scripts [] gs s r = tt
scripts (f ∷ fs) [] s r = tt
scripts (f ∷ fs) (g ∷ gs) s r =
    let p = one_script s f g r.0 in (
      p,
      λ n. subst (λ w. ProlongedHistories (history (after s f) fs) (history (leaves s w) gs)) (p.same n) (scripts fs gs (after s f) r.1),
    )

pub history_budgets : HistoryBudgets
unfolding HistoryBudgets
history_budgets s fs gs = scripts fs gs s

pub job_history_budgets : JobHistoryBudgets
unfolding JobHistoryBudgets after_job
job_history_budgets b n m lent fs gs r a =
    let p = one_job b n m lent r in (
      p,
      λ k.
          subst (λ w. ProlongedHistories (history (after_job b n lent) fs) (history (leaves (job_store b) w) gs)) (p.same k)
          (scripts fs gs (after_job b n lent) a),
    )

-- runs that take turns

both_alone : (g h : Newcomer) (e f : Ended) → alone g ≡ ran e → alone h ≡ ran f → g.job ≡ h.job → g.lent ≡ h.lent → g.budget ≤ h.budget
    → Prolonged (ran e) (ran f)
unfolding alone
both_alone g h e f a b j l n =
    let r : Raised g.budget h.budget = record { smaller = budget_right g (alone_taken g e a); larger = budget_right h (alone_taken h f b); grows = n } in
    let q : run_job g.job h.budget g.lent ≡ run_job h.job h.budget h.lent = λ i. run_job (j i) h.budget (l i) in
    subst (λ w. Prolonged w (ran f)) a (subst (λ w. Prolonged (alone g) w) (q ∙ b) (one_job g.job g.budget h.budget g.lent r))

pub rounds_budgets : RoundsBudgets
unfolding RoundsBudgets AsAlone
rounds_budgets xs ys i j g h e f p q = both_alone g h e f (as_alone xs i g e p) (as_alone ys j h f q)
