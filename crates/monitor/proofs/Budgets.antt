-- R-14 of calls, from their promise alone and from the rules' outcomes under two budgets. Assumes nothing.
use mathlib.Core.Path.{◌≡◌, refl, sym, ◌∙◌, ap, subst}
use mathlib.Core.List.{List, [], ◌∷◌}
use Prim.Native.Nat.{ℕ, ◌*◌, ◌<◌, ◌≤◌}
use native.Mathlib.Omega.{arith}
use native.Mathlib.Nat.{le_refl}
use native.Mathlib.Decide.{dec_lt}
use lib.ListN.{length, take}
use Rattle.rules.specs.Limits.{bad_follow_on}
use Rattle.rules.specs.Tree.{Forest, Place}
use Rattle.rules.specs.Bytes.{variable_count}
use Rattle.rules.specs.Outcome as Rules
use Rattle.rules.specs.Outcome.{answer, run_job, board_lines}
use Rattle.rules.specs.History.{Store, FollowOn, follow, leaves, after, history}
use Rattle.rules.specs.Budget.{Prolonged, JobBudgets, HistoryBudgets}
use Rattle.rules.proofs.Budget.{job_budgets, history_budgets}
use Rattle.table.proofs.Unique.{one_tree}
use Rattle.lent.proofs.Resuming.{stands_one}
use Rattle.actions.specs.Board.{spell}
use Rattle.actions.proofs.Board.{spell_prefix, written_lines}
use Rattle.monitor.specs.declared.entry.Outcome.{Outcome}
use Rattle.monitor.specs.Promises.{answer_of, told, Lent, lent_by, places_in, Tree, Leaves}
use Rattle.monitor.specs.Secrecy.{variable_in}
use Rattle.monitor.specs.Follow.{HoldsStore, follow_on, Tells, Follows, over, none, StandsIn}
use Rattle.monitor.specs.Histories.{Call}
use Rattle.monitor.specs.Budgets.{lines_of, ProlongedCall, SameLent, BudgetCalls, SameStore, RaisedCall, AllRaisedCalls, Standing, SameLeft, ProlongedCalls, BudgetHistories}
use Rattle.monitor.proofs.Histories.{one_store}

module _ {T : Type 0} (places : T → ℕ) (HoldsTree : T → ℕ → Forest → Place → Type 0) where
  -- all lines of a call
  lines_are : (n : ℕ) (x x' : Lent T) (r : Outcome) (w : Rules.Outcome) → answer_of r ≡ answer w → Leaves places HoldsTree n x x' w
      → lines_of r x' ≡ spell (board_lines w)
  unfolding lines_of answer board_lines spell
  lines_are n x x' r (Rules.rejected k i) e l = ap (λ a. take (5 * a.lines) x'.board) e
  lines_are n x x' r (Rules.ran f) e l =
      ap (λ a. take (5 * a.lines) x'.board) e ∙ ap (take (5 * length f.last.memory.lines)) l.board
      ∙ written_lines f.last.memory.lines x.board

  -- two calls, from what the rules say of their outcomes
  module _ (n m : ℕ) (x x' y y' : Lent T) (r s : Outcome) (w v : Rules.Outcome) (rw-is : r ≡ told w) (sv-is : s ≡ told v) (ra : answer_of r ≡ answer w)
      (sa : answer_of s ≡ answer v) (l : Leaves places HoldsTree n x x' w) (k : Leaves places HoldsTree m y y' v) (p : Prolonged w v) where
    prolonged_call : (Left : Type 0) → (w ≡ v → Left) → ProlongedCall Left x' y' r s
    prolonged_call Left left =
        record {
          same = λ z. let q = p.same (λ e. z (ap (λ a. a.ending) ra ∙ e)) in (rw-is ∙ ap told q ∙ sym sv-is, left q);
          lines = rw (lines_are n x x' r w ra l, lines_are m y y' s v sa k) (spell_prefix _ _ p.lines);
          steps = rw (ra, sa) p.steps;
        }

    same_lines : w ≡ v → lines_of r x' ≡ lines_of s y'
    same_lines q = lines_are n x x' r w ra l ∙ ap (λ u. spell (board_lines u)) q ∙ sym (lines_are m y y' s v sa k)

  -- what calls of one outcome, lent the same, leave
  module _ (one : (w : T) (k m : ℕ) (t u : Forest) (p q : Place) → HoldsTree w k t p → HoldsTree w m u q → t ≡ u) where
    same_lent : (n : ℕ) (x x' y' : Lent T) (w : Rules.Outcome) → Leaves places HoldsTree n x x' w → Leaves places HoldsTree n x y' w
        → SameLent places HoldsTree x' y'
    same_lent n x x' y' (Rules.rejected k i) l h = subst (λ z. SameLent places HoldsTree x' z) (l ∙ sym h) (itself x')
      where
        itself : (z : Lent T) → SameLent places HoldsTree z z
        itself z = record { board = refl; variables = λ i. refl; tree = one z.table }
    same_lent n x x' y' (Rules.ran f) l h =
        record {
          board = l.board ∙ sym h.board;
          variables = λ i. variable i (dec_lt i n);
          tree = λ k m t u p q a b. one _ _ _ _ _ _ _ a l.tree ∙ sym (one _ _ _ _ _ _ _ b h.tree);
        }
      where
        variable : (i : ℕ) → Dec (i < n) → variable_in x' i ≡ variable_in y' i
        variable i (yes q) =
            let e = sym (l.variables.level i q) ∙ h.variables.level i q in
            let z = sym (l.variables.value i q) ∙ h.variables.value i q in
            λ j. record { level = e j; value = z j }
        variable i (no k) =
            let q : n ≤ i = omega (arith, k) in
            let e = l.spare_levels i q ∙ sym (h.spare_levels i q) in
            let z = l.spare_values i q ∙ sym (h.spare_values i q) in
            λ j. record { level = e j; value = z j }

    pub budget_calls_of : BudgetCalls places HoldsTree
    unfolding BudgetCalls JobBudgets
    budget_calls_of b n m x x' y' r s p q raised =
        prolonged_call (variable_count b) (variable_count b) x x' x y' r s _ _ p.outcome q.outcome p.answered q.answered p.leaves q.leaves (job_budgets b n m (lent_by places x) raised) _
        (λ e. same_lent (variable_count b) x x' y' (run_job b n (lent_by places x)) p.leaves (subst (Leaves places HoldsTree (variable_count b) x y') (sym e) q.leaves))

  -- script after script
  module _ (StandsIn : T → Forest → Type 0) (one : (w : T) (t u : Forest) → StandsIn w t → StandsIn w u → t ≡ u) where
    -- both hold one store
    same_store : (x y : Lent T) (s : Store) → HoldsStore StandsIn x s → HoldsStore StandsIn y s → SameStore places HoldsTree StandsIn x y
    same_store x y s h k =
        record {
          there = λ u hu. subst (HoldsStore StandsIn y) (one_store places HoldsTree StandsIn one 0 x s u h hu) k;
          back = λ u hu. subst (HoldsStore StandsIn x) (one_store places HoldsTree StandsIn one 0 y s u k hu) h;
        }

    -- a script over one store
    module _ (c d : Call T) (s : Store) (up : RaisedCall places HoldsTree StandsIn c d) where
      abbrev f : FollowOn
      f = follow_on places c.section c.budget c.given

      abbrev g : FollowOn
      g = follow_on places d.section d.budget d.given

      prolonged : Prolonged (follow s f) (follow s g)
      unfolding HistoryBudgets history
      prolonged = (history_budgets s (f ∷ []) (g ∷ []) (record { section = up.section; budget = up.budget; lent = up.sizes }, tt)).0

      run_over : Tells places HoldsTree c.given c.left (follow s f) c.outcome → Tells places HoldsTree d.given d.left (follow s g) d.outcome
          → HoldsStore StandsIn c.left (after s f) → HoldsStore StandsIn d.left (after s g)
          → ProlongedCall (SameLeft places HoldsTree StandsIn c d) c.left d.left c.outcome d.outcome
      unfolding after
      run_over t u h k =
          prolonged_call _ _ _ _ _ _ _ _ _ _ t.outcome u.outcome t.answered u.answered t.leaves u.leaves prolonged _
          (λ e. (
            same_lines _ _ _ _ _ _ _ _ _ _ t.outcome u.outcome t.answered u.answered t.leaves u.leaves prolonged e,
            same_store c.left d.left (leaves s (follow s f)) h (subst (λ w. HoldsStore StandsIn d.left (leaves s w)) (sym e) k),
          ))

    call : (c d : Call T) → SameStore places HoldsTree StandsIn c.given d.given → RaisedCall places HoldsTree StandsIn c d
        → Follows places HoldsTree StandsIn c.section c.budget c.given c.left c.outcome
        → Follows places HoldsTree StandsIn d.section d.budget d.given d.left d.outcome
        → ProlongedCall (SameLeft places HoldsTree StandsIn c d) c.left d.left c.outcome d.outcome
    unfolding board_lines
    call c d same up (over s h t n) (over z k u m) =
        let q = one_store places HoldsTree StandsIn one 0 d.given z s k (same.there s h) in
        run_over c d s up t (subst (λ v. Tells places HoldsTree d.given d.left (follow v (follow_on places d.section d.budget d.given)) d.outcome) q u) n
        (subst (λ v. HoldsStore StandsIn d.left (after v (follow_on places d.section d.budget d.given))) q m)
    call c d same up (none h t) (over z k u m) = absurd (h z (same.back z k))
    call c d same up (over s h t n) (none k u) = absurd (k s (same.there s h))
    call c d same up (none h t) (none k u) =
        prolonged_call 0 0 _ _ _ _ _ _ _ _ t.outcome u.outcome t.answered u.answered t.leaves u.leaves itself _
        (λ e. (same_lines 0 0 _ _ _ _ _ _ _ _ t.outcome u.outcome t.answered u.answered t.leaves u.leaves itself e, left))
      where
        itself : Prolonged (Rules.rejected bad_follow_on 0) (Rules.rejected bad_follow_on 0)
        itself = record { same = λ _. refl; lines = ([], refl); steps = le_refl _ }

        left : SameStore places HoldsTree StandsIn c.left d.left
        left =
            record {
              there = λ s q. absurd (h s (subst (λ z. HoldsStore StandsIn z s) t.leaves q));
              back = λ s q. absurd (k s (subst (λ z. HoldsStore StandsIn z s) u.leaves q));
            }

    calls : (cs ds : List (Call T)) (x y : Lent T) → SameStore places HoldsTree StandsIn x y → AllRaisedCalls places HoldsTree StandsIn cs ds
        → Standing places HoldsTree StandsIn x cs → Standing places HoldsTree StandsIn y ds → ProlongedCalls places HoldsTree StandsIn cs ds
    calls [] ds x y same up p q = tt
    calls (c ∷ cs) [] x y same up p q = tt
    calls (c ∷ cs) (d ∷ ds) x y same up p q =
        let given : SameStore places HoldsTree StandsIn c.given d.given =
        record { there = λ s h. q.0.there s (same.there s (p.0.back s h)); back = λ s h. p.0.there s (same.back s (q.0.back s h)) } in
        let w = call c d given up.0 p.1.0 q.1.0 in
        (w, λ n. calls cs ds c.left d.left (w.same n).1.1 up.1 p.1.1 q.1.1)

    pub budget_histories_of : BudgetHistories places HoldsTree StandsIn
    unfolding BudgetHistories
    budget_histories_of x y cs ds = calls cs ds x y

-- for words
pub budget_calls : BudgetCalls places_in Tree
budget_calls = budget_calls_of places_in Tree (λ w k m t u p q h g. one_tree h.holds g.holds)

pub budget_histories : BudgetHistories places_in Tree StandsIn
budget_histories = budget_histories_of places_in Tree StandsIn (λ w t u h k. stands_one (omega arith) h k)
