-- Histories of calls after accepted jobs. A job that is run leaves the store after it: its tree stands, and its variables are those lent on. Two jobs
-- that are alike and finish leave what agrees, since the tree that stands is the one that the run left; so the scripts after them are two histories
-- from starts that agree. Assumes nothing.
use mathlib.Core.Path.{◌≡◌, refl, sym, ◌∙◌, ap, subst}
use mathlib.Core.List.{List, ◌∷◌, map}
use Prim.Native.Nat.{ℕ, zero, suc, ◌+◌, ◌<◌, min}
use native.Mathlib.Omega.{arith}
use lib.ListN.{length}
use Rattle.rules.specs.Level.{Level}
use Rattle.rules.specs.Tree.{Forest, Place, TreeRules}
use Rattle.rules.specs.Bytes.{variable_count}
use Rattle.rules.specs.Check.{accepted}
use Rattle.rules.specs.Job.{Variable, listed, script}
use Rattle.rules.specs.Run.{State, Ended, run}
use Rattle.rules.specs.Outcome as Rules
use Rattle.rules.specs.Outcome.{check_job, begin, run_job}
use Rattle.rules.specs.Public.{Finishes, seen_variable, AgreeVariables, AgreeTrees, Alike}
use Rattle.rules.specs.History.{Store, job_store, leaves, after_job}
use Rattle.rules.proofs.Noninterference.{bytes_accepted, runs}
use Rattle.rules.proofs.Stores.{Holdable, job_holdable}
use Rattle.table.specs.Cells.{cells, gone}
use Rattle.lent.specs.Stands.{Stands}
use Rattle.table.proofs.Unique.{one_tree}
use Rattle.lent.proofs.Resuming.{stands_one, held_one, holds_stands}
use Rattle.actions.specs.Shows.{Variables}
use Rattle.monitor.specs.declared.entry.Outcome.{Outcome}
use Rattle.monitor.specs.Promises.{answer_of, Lent, lent_by, places_in, Tree, Ran, Leaves, Promises}
use Rattle.monitor.specs.Secrecy.{variable_in, SameLeft, Unseen, SecretCalls}
use Rattle.monitor.specs.Follow.{HoldsStore, StandsIn}
use Rattle.monitor.specs.Histories.{LentOn, AgreeLent, JobLeavesStore, SecretHistories, SecretJobHistories}
use Rattle.monitor.proofs.Secret.{outcome, finish, left, same_count, secret_of}
use Rattle.monitor.proofs.Followed.{no_others}
use Rattle.monitor.proofs.Histories.{secret_histories_of}

-- variables of which the same is seen, one by one
seen_listed : (o : Level) (f g : ℕ → Variable) (n i : ℕ) → ((k : ℕ) → k < i + n → seen_variable o (f k) ≡ seen_variable o (g k))
    → AgreeVariables o (listed f n i) (listed g n i)
unfolding AgreeVariables listed
seen_listed o f g zero i h = refl
seen_listed o f g (suc n) i h =
    ap (λ v. v ∷ map (seen_variable o) (listed f n (suc i))) (h i (omega arith))
    ∙ ap (λ vs. seen_variable o (g i) ∷ vs) (seen_listed o f g n (suc i) (λ k q. h k (omega arith)))

-- for node tables of any kind, in which what a run leaves stands
module _ {T : Type 0} (places : T → ℕ) (HoldsTree : T → ℕ → Forest → Place → Type 0) (StandsIn : T → Forest → Type 0)
    (stands : (w : T) (t : Forest) (p : Place) → HoldsTree w (places w) t p → TreeRules t → StandsIn w t) where
  module _ (b : List ℕ) (n : ℕ) (x x' y : Lent T) (ok : check_job b n (lent_by places x) ≡ accepted) (same : places x'.table ≡ places x.table)
      (on : LentOn (variable_count b) x' y) (even : length y.levels ≡ length y.values) where
    abbrev e : Ended
    e = run (lent_by places x) (script b) n (begin b)

    is_ran : run_job b n (lent_by places x) ≡ Rules.ran e
    is_ran = runs b n (lent_by places x) ok

    rules : Holdable (leaves (job_store b) (Rules.ran e))
    unfolding after_job
    rules = subst (λ (w : Rules.Outcome). Holdable (leaves (job_store b) w)) is_ran (job_holdable b n (lent_by places x) (bytes_accepted b n _ ok))

    module _ (h : Ran HoldsTree (variable_count b) (places x.table) x x' e) where
      variables : Variables y.levels y.values (length y.levels) e.last.memory.variables
      variables =
          let v = h.variables in
          record {
            many = v.many ∙ sym on.many;
            level = λ i q. let lt : i < variable_count b = omega (arith, on.many) in v.level i lt ∙ sym (ap (λ u. u.level) (on.variables i lt));
            value = λ i q. let lt : i < variable_count b = omega (arith, on.many) in v.value i lt ∙ sym (ap (λ u. u.value) (on.variables i lt));
          }

      store_left : HoldsStore StandsIn y (leaves (job_store b) (Rules.ran e))
      unfolding leaves
      store_left =
          record {
            even = even;
            variables = no_others y _ variables;
            tree =
                subst (λ w. StandsIn w e.last.memory.tree) (sym on.table)
                (stands x'.table _ _ (subst (λ k. HoldsTree x'.table k e.last.memory.tree e.last.memory.cursor) (sym same) h.tree) rules.rules);
          }

  pub job_leaves_store_of : JobLeavesStore places HoldsTree StandsIn
  unfolding JobLeavesStore after_job
  job_leaves_store_of b n x x' y r p ok same on even =
      let w = is_ran b n x x' y ok same on even in
      subst (λ (v : Rules.Outcome). HoldsStore StandsIn y (leaves (job_store b) v)) (sym w)
      (store_left b n x x' y ok same on even (subst (Leaves places HoldsTree (variable_count b) x x') w p.leaves))

-- for node tables of any kind that hold at most one tree, which is the one that stands in them
module _ {T : Type 0} (places : T → ℕ) (HoldsTree : T → ℕ → Forest → Place → Type 0) (StandsIn : T → Forest → Type 0)
    (one-held : (w : T) (k m : ℕ) (t u : Forest) (p q : Place) → HoldsTree w k t p → HoldsTree w m u q → t ≡ u)
    (one-stands : (w : T) (t u : Forest) → StandsIn w t → StandsIn w u → t ≡ u)
    (same_tree : (w : T) (k : ℕ) (t u : Forest) (p : Place) → HoldsTree w k t p → StandsIn w u → t ≡ u) (o : Level) where
  module _ (a b : List ℕ) (n m : ℕ) (x x' y y' z w : Lent T) (r s : Outcome) (p : Promises places HoldsTree a n x x' r)
      (q : Promises places HoldsTree b m y y' s) (alike : Alike o a b) (on : LentOn (variable_count a) x' z) (on' : LentOn (variable_count b) y' w) where
    -- what is seen of a variable is what was seen where the job left it
    seen_on_law : SameLeft places HoldsTree o (variable_count a) x' y' r s → (i : ℕ) → i < variable_count a
        → seen_variable o (variable_in z i) ≡ seen_variable o (variable_in w i)
    seen_on_law l i lt =
        ap (seen_variable o) (on.variables i lt) ∙ l.variables i lt
        ∙ sym (ap (seen_variable o) (on'.variables i (subst (λ c. i < c) (same_count o a b alike) lt)))

    -- both finish, in the states g and h
    module _ (l : SameLeft places HoldsTree o (variable_count a) x' y' r s) (g h : State) (f : Finishes (outcome a n x x' r p) g)
        (k : Finishes (outcome b m y y' s q) h) (u v : Store) (hu : HoldsStore StandsIn z u) (hv : HoldsStore StandsIn w v) where
      variables_on : AgreeVariables o u.variables v.variables
      variables_on =
          subst (λ vs. AgreeVariables o vs v.variables) (sym (hu.variables ∙ ap (λ c. listed (variable_in z) c 0) on.many))
          (subst (AgreeVariables o (listed (variable_in z) (variable_count a) 0))
          (sym (hv.variables ∙ ap (λ c. listed (variable_in w) c 0) (on'.many ∙ sym (same_count o a b alike))))
          (seen_listed o (variable_in z) (variable_in w) (variable_count a) 0 (λ i lt. seen_on_law l i (omega arith))))

      trees_on : AgreeTrees o u.tree v.tree
      trees_on =
          let t = (left a n x x' r p g f).tree in
          let t' = (left b m y y' s q h k).tree in
          l.trees _ _ _ _ _ _
          (subst (λ c. HoldsTree x'.table (places x.table) c g.memory.cursor)
          (same_tree x'.table _ _ _ _ t (subst (λ c. StandsIn c u.tree) on.table hu.tree)) t)
          (subst (λ c. HoldsTree y'.table (places y.table) c h.memory.cursor)
          (same_tree y'.table _ _ _ _ t' (subst (λ c. StandsIn c v.tree) on'.table hv.tree)) t')

    agree_on : Unseen places HoldsTree o (variable_count a) x' y' r s → (answer_of r).ending ≡ 0 → (answer_of s).ending ≡ 0
        → AgreeLent places HoldsTree StandsIn o z w
    unfolding AgreeLent
    agree_on un e e' u v hu hv =
        let l = un.finish e e' in
        let f = finish a n x x' r p e in
        let k = finish b m y y' s q e' in
        record { variables = variables_on l f.0 k.0 f.1 k.1 u v hu hv; trees = trees_on l f.0 k.0 f.1 k.1 u v hu hv }

  pub secret_job_histories_of : SecretJobHistories places HoldsTree StandsIn o
  unfolding SecretJobHistories SecretCalls SecretHistories
  secret_job_histories_of a b n m x x' y y' z w r s cs ds p q ha hb alike on on' same hc hd =
      let un = secret_of places HoldsTree one-held o a b n m x x' y y' r s p q ha hb alike in (
        un,
        λ e e'. secret_histories_of places HoldsTree StandsIn one-stands o z w cs ds (agree_on a b n m x x' y y' z w r s p q alike on on' un e e') same hc hd,
      )

-- for words
words_stand : (w : List ℕ) (t : Forest) (p : Place) → Tree w (places_in w) t p → TreeRules t → StandsIn w t
words_stand w t p h rules =
    let e : places_in w ≡ min (places_in w) gone = omega (arith, h.holds.few) in
    subst (λ k. Stands (cells w) k t) e (holds_stands h.holds rules)

pub job_leaves_store : JobLeavesStore places_in Tree StandsIn
job_leaves_store = job_leaves_store_of places_in Tree StandsIn words_stand

pub secret_job_histories : (o : Level) → SecretJobHistories places_in Tree StandsIn o
secret_job_histories o =
    secret_job_histories_of places_in Tree StandsIn (λ w k m t u p q h g. one_tree h.holds g.holds) (λ w t u h k. stands_one (omega arith) h k)
    (λ w k t u p h s. held_one (omega arith) h.holds s) o
