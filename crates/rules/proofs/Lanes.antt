-- A load brings a lane the view, which is made of what its reader sees; so what comes after it is the same wherever that is. Views of one job for two readers
-- agree for who has fewer parties, and a transaction that finishes in both lanes, or in neither, keeps them so. Assumes nothing.
use mathlib.Core.Path.{◌≡◌, refl, sym, ◌∙◌, ap, ap₂, subst, transport}
use Prim.Native.Nat.{ℕ, zero, suc}
use mathlib.Core.Bool.{true}
use mathlib.Core.List.{List, [], ◌∷◌, ◌++◌, map, map-append}
use Rattle.rules.specs.Level.{Level, not_above}
use Rattle.rules.specs.Tree.{Forest, TreeRules}
use Rattle.rules.specs.Check.{accepted, require, check_bytes}
use Rattle.rules.specs.Job.{Variable, variables, job_tree, script}
use Rattle.rules.specs.Run.{Buffers, finished, run, start}
use Rattle.rules.specs.Outcome.{ran, budget_rule, and_then, check_job_by, check_job, begin, run_job}
use Rattle.rules.specs.Public.{Alike, AgreeVariables, AgreeTrees, seen_variable}
use Rattle.rules.specs.History.{Store, FollowOn, section_script, store_rule, follow, leaves, after, after_all, job_store, AgreeStores}
use Rattle.rules.specs.Season.{attempt, published, is_finished, commits, commit, season, closing, seen_boards}
use Rattle.rules.specs.Write.{job_of}
use Rattle.rules.specs.Projection.{everyone, view_store, project}
use Rattle.rules.specs.Lanes.{Entry, load, transaction, beside, asking, query, QueryIsJob, Brought, entered, lane, stands, decided, AlikeEntry, AlikeLogs, OneLane, NothingTold, NothingToldOfStores, SameLogs, IndistinguishableLanes, SameStores, Together, LanesTogether, Faithful, FaithfulToLog, Mends, GoesOn, LaneKept, housed, Scriptless, unloaded, LaneIsSeason, FaithfulToHouse, LaneRight, LanesRight}
use Rattle.rules.proofs.Tests.{Test, holds, fails, test}
use Rattle.rules.proofs.Lattice.{na_all, level_byte}
use Rattle.rules.proofs.Noninterference.{runs, bytes_accepted}
use Rattle.rules.proofs.Stores.{holdable_rule, taken, followed, job_store_law, store_kept}
use Rattle.rules.proofs.History.{one_script}
use Rattle.rules.proofs.Season.{heads, tails, sees, one_verdict}
use Rattle.rules.proofs.Joined.{joins_right}
use Rattle.rules.proofs.Projection.{cut_fits, view_twice, view_shows, one_view, agree_sym, view_right, view_whole}
use Rattle.rules.proofs.Projected.{job_view_right}

module _ (o : Level) where
  -- nothing is told

  entry_told : (s : Store) (x y : Entry) → AlikeEntry o x y → entered o s x ≡ entered o s y
  unfolding entered
  entry_told s (load a) (load b) h = one_view o (job_store a) (job_store b) h
  entry_told s (transaction f) (transaction g) h = ap (λ z. commit s (follow s z)) h
  entry_told s (load a) (transaction g) h = elim h [ ]
  entry_told s (transaction f) (load b) h = elim h [ ]

  stands_told : (xs ys : List Entry) (s t : Store) → s ≡ t → AlikeLogs o xs ys → stands o s xs ≡ stands o t ys
  unfolding stands
  stands_told [] [] s t e h = e
  stands_told [] (y ∷ ys) s t e h = elim h [ ]
  stands_told (x ∷ xs) [] s t e h = elim h [ ]
  stands_told (x ∷ xs) (y ∷ ys) s t e h =
      stands_told xs ys (entered o s x) (entered o t y) (ap (λ z. entered o z x) e ∙ entry_told t x y h.0) h.1

  lane_told : (xs ys : List Entry) (s t : Store) → s ≡ t → AlikeLogs o xs ys → lane o s xs ≡ lane o t ys
  unfolding lane
  lane_told [] [] s t e h = refl
  lane_told [] (_ ∷ ys) s t e h = elim h [ ]
  lane_told (load a ∷ xs) [] s t e h = elim h [ ]
  lane_told (transaction f ∷ xs) [] s t e h = elim h [ ]
  lane_told (load a ∷ xs) (load b ∷ ys) s t e h =
      lane_told xs ys (entered o s (load a)) (entered o t (load b)) (ap (λ z. entered o z (load a)) e ∙ entry_told t (load a) (load b) h.0) h.1
  lane_told (load a ∷ xs) (transaction g ∷ ys) s t e h = absurd h.0
  lane_told (transaction f ∷ xs) (load b ∷ ys) s t e h = absurd h.0
  lane_told (transaction f ∷ xs) (transaction g ∷ ys) s t e h =
      ap₂ ◌∷◌ (ap₂ follow e h.0)
      (lane_told xs ys (entered o s (transaction f)) (entered o t (transaction g))
      (ap (λ z. entered o z (transaction f)) e ∙ entry_told t (transaction f) (transaction g) h.0) h.1)

  one_lane : (s t : Store) (xs ys : List Entry) → s ≡ t → AlikeLogs o xs ys → OneLane o s t xs ys
  one_lane s t xs ys e h =
      let z = stands_told xs ys s t e h in
      record { outcomes = lane_told xs ys s t e h; stores = z; queries = λ q. ap (λ u. query u q) z }

  pub nothing_told : NothingTold o
  unfolding NothingTold
  nothing_told s xs ys h = one_lane s s xs ys refl h

  pub nothing_told_of_stores : NothingToldOfStores o
  unfolding NothingToldOfStores
  nothing_told_of_stores s t xs ys a h = one_lane (view_store o s) (view_store o t) xs ys (one_view o s t a) h

  -- stores that agree

  agree_trans : (s t u : Store) → AgreeStores o s t → AgreeStores o t u → AgreeStores o s u
  unfolding AgreeVariables AgreeTrees
  agree_trans s t u a b = record { variables = a.variables ∙ b.variables; trees = λ p. a.trees p ∙ b.trees p }

  agree_beside : (s t : Store) (vs ws : List Variable) → AgreeStores o s t → AgreeVariables o vs ws → AgreeStores o (beside s vs) (beside t ws)
  unfolding beside AgreeVariables
  agree_beside s t vs ws a e =
      record {
        variables = map-append (seen_variable o) s.variables vs ∙ ap₂ ◌++◌ a.variables e ∙ sym (map-append (seen_variable o) t.variables ws);
        trees = a.trees;
      }

  same_stores : (s t : Store) → AgreeStores o s t → SameStores o s t
  unfolding query asking
  same_stores s t a =
      record {
        agree = a;
        view = one_view o s t a;
        scripts = λ f g e. one_script o s t f g a e;
        queries =
            λ q r v e. one_script o (beside s q.variables) (beside t r.variables) (asking q) (asking r) (agree_beside s t q.variables r.variables a v) e;
      }

  view_rules : (s : Store) → TreeRules s.tree → TreeRules (view_store o s).tree
  unfolding view_store
  view_rules s f = cut_fits o _ _ s.tree f

  -- stores with one view agree
  one_view_agrees : (s t : Store) → TreeRules s.tree → TreeRules t.tree → view_store o s ≡ view_store o t → AgreeStores o s t
  one_view_agrees s t f g e =
      agree_trans s (view_store o t) t (subst (AgreeStores o s) e (view_shows o s f)) (agree_sym o t (view_store o t) (view_shows o t g))

module _ (o p : Level) (within : not_above o p ≡ true) where
  -- the views of two readers, of stores that agree for who has fewer parties
  views_agree : (s t : Store) → TreeRules s.tree → TreeRules t.tree → AgreeStores o s t → AgreeStores o (view_store o s) (view_store p t)
  views_agree s t f g a =
      let b = agree_trans o (view_store o s) s t (agree_sym o s (view_store o s) (view_shows o s f)) a in
      agree_trans o (view_store o s) t (view_store p t) b
      (one_view_agrees o t (view_store p t) g (view_rules p t g) (sym (view_twice o p within t)))

  loads_agree : (s t : Store) (a b : List ℕ) → check_bytes a ≡ accepted → check_bytes b ≡ accepted → AgreeStores o (job_store a) (job_store b)
      → AgreeStores o (entered o s (load a)) (entered p t (load b))
  unfolding entered
  loads_agree s t a b ha hb e = views_agree (job_store a) (job_store b) (job_store_law a ha).rules (job_store_law b hb).rules e

  transactions_agree : (s t : Store) (f g : FollowOn) → AgreeStores o s t → section_script f.section ≡ section_script g.section
      → commits (follow s f) ≡ commits (follow t g) → AgreeStores o (entered o s (transaction f)) (entered p t (transaction g))
  unfolding entered
  transactions_agree s t f g a e v = (one_verdict o s t (follow s f) (follow t g) a (one_script o s t f g a e) v).1

  outcomes_together : (xs ys : List Entry) (s t : Store) → AgreeStores o s t → Brought xs → Brought ys → SameLogs o xs ys
      → IndistinguishableLanes o (lane o s xs) (lane p t ys)
  unfolding lane
  outcomes_together [] [] s t a x y h = tt
  outcomes_together [] (_ ∷ ys) s t a x y h = elim h [ ]
  outcomes_together (load b ∷ xs) [] s t a x y h = elim h [ ]
  outcomes_together (transaction f ∷ xs) [] s t a x y h = elim h [ ]
  outcomes_together (load b ∷ xs) (load c ∷ ys) s t a x y h =
      outcomes_together xs ys (entered o s (load b)) (entered p t (load c)) (loads_agree s t b c x.0 y.0 h.0) x.1 y.1 h.1
  outcomes_together (load b ∷ xs) (transaction g ∷ ys) s t a x y h = absurd h.0
  outcomes_together (transaction f ∷ xs) (load c ∷ ys) s t a x y h = absurd h.0
  outcomes_together (transaction f ∷ xs) (transaction g ∷ ys) s t a x y h = (
    one_script o s t f g a h.0,
    λ v. outcomes_together xs ys (entered o s (transaction f)) (entered p t (transaction g)) (transactions_agree s t f g a h.0 v) x y h.1,
  )

  Same : (s t : Store) (xs ys : List Entry) → Type 0
  Same s t xs ys =
      (seen_boards o (map published (lane o s xs)) ≡ seen_boards o (map published (lane p t ys))) × AgreeStores o (stands o s xs) (stands p t ys)

  same_together : (xs ys : List Entry) (s t : Store) → AgreeStores o s t → Brought xs → Brought ys → SameLogs o xs ys
      → map commits (lane o s xs) ≡ map commits (lane p t ys) → Same s t xs ys
  unfolding lane stands Same seen_boards sees
  same_together [] [] s t a x y h v = (refl, a)
  same_together [] (_ ∷ ys) s t a x y h v = elim h [ ]
  same_together (load b ∷ xs) [] s t a x y h v = elim h [ ]
  same_together (transaction f ∷ xs) [] s t a x y h v = elim h [ ]
  same_together (load b ∷ xs) (load c ∷ ys) s t a x y h v =
      same_together xs ys (entered o s (load b)) (entered p t (load c)) (loads_agree s t b c x.0 y.0 h.0) x.1 y.1 h.1 v
  same_together (load b ∷ xs) (transaction g ∷ ys) s t a x y h v = absurd h.0
  same_together (transaction f ∷ xs) (load c ∷ ys) s t a x y h v = absurd h.0
  same_together (transaction f ∷ xs) (transaction g ∷ ys) s t a x y h v =
      let k = one_verdict o s t (follow s f) (follow t g) a (one_script o s t f g a h.0) (heads v) in
      let r = same_together xs ys (entered o s (transaction f)) (entered p t (transaction g)) (transactions_agree s t f g a h.0 (heads v)) x y h.1 (tails v) in
      (λ i. k.0 i ∷ r.0 i, r.1)

  together : (s t : Store) (xs ys : List Entry) → AgreeStores o s t → Brought xs → Brought ys → SameLogs o xs ys → LanesTogether o p s t xs ys
  unfolding decided Same
  together s t xs ys a x y h =
      record {
        outcomes = outcomes_together xs ys s t a x y h;
        boards = λ v. (same_together xs ys s t a x y h v).0;
        stores = λ v. same_stores o (stands o s xs) (stands p t ys) (same_together xs ys s t a x y h v).1;
      }

  together_again : (s t : Store) (a b : List ℕ) (xs ys : List Entry) → Brought (load a ∷ xs) → Brought (load b ∷ ys)
      → SameLogs o (load a ∷ xs) (load b ∷ ys) → LanesTogether o p s t (load a ∷ xs) (load b ∷ ys)
  unfolding lane stands
  together_again s t a b xs ys x y h =
      together (entered o s (load a)) (entered p t (load b)) xs ys (loads_agree s t a b x.0 y.0 h.0) x.1 y.1 h.1

pub faithful : (o : Level) → Faithful o
unfolding Faithful
faithful o p s t xs ys w a x y h = together o p w s t xs ys a x y h

module _ (o : Level) where
  agree_refl : (s : Store) → AgreeStores o s s
  unfolding AgreeVariables AgreeTrees
  agree_refl s = record { variables = refl; trees = λ p. refl }

  same_log : (xs : List Entry) → SameLogs o xs xs
  same_log [] = tt
  same_log (load b ∷ xs) = (agree_refl (job_store b), same_log xs)
  same_log (transaction f ∷ xs) = (refl, same_log xs)

  pub faithful_to_log_law : FaithfulToLog o
  unfolding FaithfulToLog
  faithful_to_log_law p s xs w f x =
      together o p w (view_store o s) (view_store p s) xs xs (views_agree o p w s s f f (agree_refl s)) x x (same_log xs)

  mends : Mends o
  unfolding Mends
  mends p s t a b xs ys w x y h = together_again o p w s t a b xs ys x y h

  -- a lane goes on

  lane_on : (xs ys : List Entry) (s : Store) → lane o s (xs ++ ys) ≡ lane o s xs ++ lane o (stands o s xs) ys
  unfolding lane stands
  lane_on [] ys s = refl
  lane_on (load b ∷ xs) ys s = lane_on xs ys (entered o s (load b))
  lane_on (transaction f ∷ xs) ys s = ap (λ ws. follow s f ∷ ws) (lane_on xs ys (entered o s (transaction f)))

  stands_on : (xs ys : List Entry) (s : Store) → stands o s (xs ++ ys) ≡ stands o (stands o s xs) ys
  unfolding stands
  stands_on [] ys s = refl
  stands_on (x ∷ xs) ys s = stands_on xs ys (entered o s x)

  goes_on_law : GoesOn o
  unfolding GoesOn
  goes_on_law s xs ys = (lane_on xs ys s, stands_on xs ys s)

  -- and what stands in it keeps the rule of a store

  load_kept : (s : Store) (b : List ℕ) → check_bytes b ≡ accepted → store_rule (entered o s (load b)) ≡ true
  unfolding entered
  load_kept s b e = (view_right o).kept (job_store b) (holdable_rule (job_store b) (job_store_law b e))

  transaction_kept : (s : Store) (f : FollowOn) → store_rule s ≡ true → store_rule (entered o s (transaction f)) ≡ true
  unfolding entered commit after after_all
  transaction_kept s f e = pick (test (commits (follow s f)))
    where
      pick : Test (commits (follow s f)) → store_rule (commit s (follow s f)) ≡ true
      pick (holds c) = rw c (store_kept.scripts s (f ∷ []) e)
      pick (fails c) = rw c e

  stands_kept : (xs : List Entry) (s : Store) → store_rule s ≡ true → Brought xs → store_rule (stands o s xs) ≡ true
  unfolding stands
  stands_kept [] s e x = e
  stands_kept (load b ∷ xs) s e x = stands_kept xs (entered o s (load b)) (load_kept s b x.0) x.1
  stands_kept (transaction f ∷ xs) s e x = stands_kept xs (entered o s (transaction f)) (transaction_kept s f e) x

  lane_kept : LaneKept o
  unfolding stands
  lane_kept =
      record {
        rule = λ s xs. stands_kept xs s;
        loaded = λ s b xs x. stands_kept xs (entered o s (load b)) (load_kept s b x.0) x.1;
      }

-- a lane as a season

run_none : (lent : Buffers) (n : ℕ) (vs : List Variable) (t : Forest) → run lent [] n (start vs t) ≡ record { ending = finished; last = start vs t }
unfolding run start
run_none lent zero vs t = refl
run_none lent (suc n) vs t = refl

-- a job without a script leaves what it brings
load_leaves : (n : ℕ) (lent : Buffers) (s : Store) (b : List ℕ) → check_job b n lent ≡ accepted → script b ≡ [] → commit s (run_job b n lent) ≡ job_store b
unfolding commit commits is_finished leaves begin job_store start
load_leaves n lent s b h e =
    ap (commit s) (runs b n lent h ∙ ap (λ cs. ran (run lent cs n (begin b))) e ∙ ap ran (run_none lent n (variables b) (job_tree b)))

-- where what is made of a job brings what the lane gets of it
module _ (o : Level) (made : List ℕ → List ℕ) (n : ℕ) (lent : Buffers)
    (brings : (s : Store) (b : List ℕ) → check_job b n lent ≡ accepted → script b ≡ [] → view_store o (job_store b) ≡ commit s (run_job (made b) n lent)) where
  season_stands : (xs : List Entry) (s : Store) → Scriptless n lent xs → stands o s xs ≡ closing s (map (housed n lent made) xs)
  unfolding stands closing entered attempt housed
  season_stands [] s h = refl
  season_stands (load b ∷ xs) s h =
      ap (λ u. stands o u xs) (brings s b h.0 h.1) ∙ season_stands xs (commit s (run_job (made b) n lent)) h.2
  season_stands (transaction f ∷ xs) s h = season_stands xs (commit s (follow s f)) h

  season_lane : (xs : List Entry) (s : Store) → Scriptless n lent xs → lane o s xs ≡ unloaded xs (season s (map (housed n lent made) xs))
  unfolding lane season unloaded entered attempt housed
  season_lane [] s h = refl
  season_lane (load b ∷ xs) s h =
      ap (λ u. lane o u xs) (brings s b h.0 h.1) ∙ season_lane xs (commit s (run_job (made b) n lent)) h.2
  season_lane (transaction f ∷ xs) s h = ap (λ ws. follow s f ∷ ws) (season_lane xs (commit s (follow s f)) h)

house_lane : LaneIsSeason everyone (λ b. b)
unfolding LaneIsSeason
house_lane n lent s xs h = (season_lane everyone (λ b. b) n lent brings xs s h, season_stands everyone (λ b. b) n lent brings xs s h)
  where
    brings : (s : Store) (b : List ℕ) → check_job b n lent ≡ accepted → script b ≡ [] → view_store everyone (job_store b) ≡ commit s (run_job b n lent)
    brings s b k e =
        let j = job_store_law b (bytes_accepted b n lent k) in
        view_whole (job_store b) j.levels j.rules ∙ sym (load_leaves n lent s b k e)

view_lane : (o : Level) → LaneIsSeason o (project o)
unfolding LaneIsSeason
view_lane o n lent s xs h = (season_lane o (project o) n lent brings xs s h, season_stands o (project o) n lent brings xs s h)
  where
    brings : (s : Store) (b : List ℕ) → check_job b n lent ≡ accepted → script b ≡ [] → view_store o (job_store b) ≡ commit s (run_job (project o b) n lent)
    brings s b k e =
        let j = (job_view_right o).projects b (bytes_accepted b n lent k) in
        sym (load_leaves n lent s (project o b) (j.held n lent k) (j.script ∙ e) ∙ j.store)

module _ (n : ℕ) (lent : Buffers) where
  -- jobs that are taken are accepted
  scriptless_brought : (xs : List Entry) → Scriptless n lent xs → Brought xs
  scriptless_brought [] h = tt
  scriptless_brought (load b ∷ xs) h = (bytes_accepted b n lent h.0, scriptless_brought xs h.2)
  scriptless_brought (transaction f ∷ xs) h = scriptless_brought xs h

faithful_to_house_law : (o : Level) → FaithfulToHouse o
unfolding FaithfulToHouse FaithfulToLog LaneIsSeason everyone
faithful_to_house_law o n lent s xs l v f h =
    let e = view_whole s v f in
    let k = house_lane n lent s xs h in
    let w = ap (λ u. lane everyone u xs) e ∙ k.0 in
    let z = ap (λ u. stands everyone u xs) e ∙ k.1 in
    transport (λ i. Together o (lane o (view_store o s) xs) (w i) (stands o (view_store o s) xs) (z i))
    (faithful_to_log_law o everyone s xs (na_all o (level_byte o l)) f (scriptless_brought n lent xs h))

-- a query as a job

query_is_job : QueryIsJob
unfolding QueryIsJob query asking begin check_job check_job_by and_then require
query_is_job s q r e h =
    let w = taken (beside s q.variables) (asking q) e in
    let j = joins_right (beside s q.variables) q.section w.whole (holdable_rule _ w.store) r w.checked in
    followed (beside s q.variables) (asking q) e
    ∙ sym (runs (job_of (beside s q.variables) q.section) q.budget q.lent (job_taken j.taken w.spend)
    ∙ (λ i. ran (run q.lent (j.script i) q.budget (start (j.variables i) (j.tree i)))))
  where
    job_taken : check_bytes (job_of (beside s q.variables) q.section) ≡ accepted → budget_rule q.budget ≡ true
        → check_job (job_of (beside s q.variables) q.section) q.budget q.lent ≡ accepted
    job_taken a b = rw (a, b, h)

-- jobs that are alike
alike_loads : (o : Level) (a b : List ℕ) → Alike o a b → AlikeEntry o (load a) (load b)
unfolding job_store
alike_loads o a b h = h.parts

lane_right : (o : Level) → LaneRight o
lane_right o =
    record {
      on = goes_on_law o;
      kept = lane_kept o;
      season = view_lane o;
      loads = alike_loads o;
      told = nothing_told o;
      told_of_stores = nothing_told_of_stores o;
      faithful = faithful o;
      faithful_to_log = faithful_to_log_law o;
      mends = mends o;
      faithful_to_house = faithful_to_house_law o;
    }

pub lanes_right : LanesRight
lanes_right = record { reader = lane_right; house = house_lane; queries = query_is_job }
