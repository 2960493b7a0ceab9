-- Two histories of the same scripts from stores that agree look the same, up to and including the first script that stops or is turned away in either:
-- scripts that are taken start as twins, one that is turned away has no lines, and where both finish the stores agree again. Assumes nothing.
use mathlib.Core.Path.{◌≡◌, refl, subst}
use mathlib.Core.List.{List, [], ◌∷◌, map}
use Rattle.rules.specs.Level.{Level}
use Rattle.rules.specs.Check.{Checked, accepted, refused}
use Rattle.rules.specs.Run.{State, run, start}
use Rattle.rules.specs.Outcome.{Outcome, ran}
use Rattle.rules.specs.Public.{Finishes, Indistinguishable, Noninterference}
use Rattle.rules.specs.History.{Store, FollowOn, section_script, check_follow_on, follow, leaves, after, history, job_store, after_job, SameScripts, AgreeStores, IndistinguishableHistories, HistorySecrecy, JobHistorySecrecy}
use Rattle.rules.proofs.Secrecy.{indistinguishable}
use Rattle.rules.proofs.Starts.{start_valid, start_twins}
use Rattle.rules.proofs.Noninterference.{back_left, back_right, noninterference}
use Rattle.rules.proofs.Stores.{holdable_kept, taken, followed, turned_away}

module _ (o : Level) where
  -- what two outcomes leave where both finish
  agree_again : (s t : Store) (w x : Outcome) → Indistinguishable o w x → (g h : State) → Finishes w g → Finishes x h
      → AgreeStores o (leaves s w) (leaves t x)
  unfolding leaves
  agree_again s t w x u g h a b = rw (a, b) (u.finish g h a b).parts

  -- one script in two histories
  module _ (s t : Store) (f g : FollowOn) (agree : AgreeStores o s t) (same : section_script f.section ≡ section_script g.section) where
    both_taken : check_follow_on s f ≡ accepted → check_follow_on t g ≡ accepted → Indistinguishable o (follow s f) (follow t g)
    both_taken p q =
        let h = taken s f p in
        let k = taken t g q in
        let hs = holdable_kept s h.store in
        let ht = holdable_kept t k.store in
        rw (followed s f p, followed t g q)
        (subst (λ cs. Indistinguishable o (ran (run f.lent (section_script f.section) f.budget (start s.variables s.tree)))
        (ran (run g.lent cs g.budget (start t.variables t.tree)))) same
        (indistinguishable o f.lent g.lent (section_script f.section) h.script f.budget g.budget _ _ (start_valid _ _ hs _)
        (start_valid _ _ ht _) (start_twins o _ _ _ _ hs ht agree)))

    pub one_script : Indistinguishable o (follow s f) (follow t g)
    one_script = pick (check_follow_on s f) (check_follow_on t g) refl refl
      where
        pick : (c d : Checked) → check_follow_on s f ≡ c → check_follow_on t g ≡ d → Indistinguishable o (follow s f) (follow t g)
        pick (refused k i) d p q = rw (turned_away s f p) (back_left o k i _)
        pick accepted (refused k i) p q = rw (turned_away t g q) (back_right o k i _)
        pick accepted accepted p q = both_taken p q

  scripts : (fs gs : List FollowOn) (s t : Store) → AgreeStores o s t → SameScripts fs gs → IndistinguishableHistories o (history s fs) (history t gs)
  unfolding SameScripts history after
  scripts [] gs s t a e = tt
  scripts (f ∷ fs) [] s t a e = tt
  scripts (f ∷ fs) (g ∷ gs) s t a e =
      let w = one_script s t f g a (heads e) in
      (w, λ x y p q. scripts fs gs (after s f) (after t g) (agree_again s t _ _ w x y p q) (tails e))
    where
      heads : map (λ x. section_script x.section) (f ∷ fs) ≡ map (λ x. section_script x.section) (g ∷ gs)
          → section_script f.section ≡ section_script g.section
      heads q = cc

      tails : map (λ x. section_script x.section) (f ∷ fs) ≡ map (λ x. section_script x.section) (g ∷ gs)
          → map (λ x. section_script x.section) fs ≡ map (λ x. section_script x.section) gs
      tails q = cc

  pub history_secrecy : HistorySecrecy o
  unfolding HistorySecrecy
  history_secrecy s t fs gs = scripts fs gs s t

  pub job_history_secrecy : JobHistorySecrecy o
  unfolding JobHistorySecrecy Noninterference after_job
  job_history_secrecy a b n m lent lent' fs gs ha hb alike e =
      let w = noninterference o a b n m lent lent' ha hb alike in
      (w, λ x y p q. scripts fs gs (after_job a n lent) (after_job b m lent') (agree_again (job_store a) (job_store b) _ _ w x y p q) e)
