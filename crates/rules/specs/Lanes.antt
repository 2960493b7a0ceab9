-- The lanes of a log: what becomes of the same loads and transactions for each reader, over that reader's own view. A lane tells its reader nothing else,
-- however its runs end, and shows what the lane of whoever has more parties shows, as long as the same transactions finish in both. Assumes nothing.
use Rattle.std.specs.Prelude.{◌≡◌, ℕ, Bool, true, List, [], ◌∷◌, ◌++◌, map}
use Rattle.rules.specs.Level.{Level, not_above, is_level}
use Rattle.rules.specs.Tree.{nil, TreeRules}
use Rattle.rules.specs.Check.{accepted, check_bytes}
use Rattle.rules.specs.Job.{Variable, all_levels}
use Rattle.rules.specs.Job as Job
use Rattle.rules.specs.Run.{Buffers}
use Rattle.rules.specs.Outcome.{Outcome, buffer_rule, check_job, run_job}
use Rattle.rules.specs.Public.{Alike, AgreeVariables, Indistinguishable}
use Rattle.rules.specs.History.{Store, FollowOn, section_script, store_rule, check_follow_on, follow, job_store, AgreeStores}
use Rattle.rules.specs.Season.{Transaction, published, commits, commit, season, closing, seen_boards}
use Rattle.rules.specs.Season as Season
use Rattle.rules.specs.Write.{Ranged, job_of}
use Rattle.rules.specs.Projection.{everyone, view_store, project}

-- an entry of a log, the same for every reader: a job that the house loads, which has no script, or a transaction
pub data Entry : Type 0 where
  load : List ℕ → Entry
  transaction : FollowOn → Entry

-- a query: variables of its own and a bare script section, with its budget and the caller's buffers
pub record Query : Type 0 where
  pub variables : List Variable
  pub section : List ℕ
  pub budget : ℕ
  pub lent : Buffers

-- what stands before the first load: no root, so that every script is turned away
unfoldable pub nothing : Store
nothing = record { variables = []; tree = nil }

-- a store with more variables behind its own
unfoldable pub beside : Store → List Variable → Store
beside s vs = record { variables = s.variables ++ vs; tree = s.tree }

-- a query's script, as one that follows
unfoldable pub asking : Query → FollowOn
asking q = record { section = q.section; budget = q.budget; lent = q.lent }

-- what becomes of a query over a store, which stays: the run starts with the store's variables, then the query's own, and the store's tree
unfoldable pub query : Store → Query → Outcome
query s q = follow (beside s q.variables) (asking q)

-- where it is taken, it is the run of the job that has these variables, this tree and this script
unfoldable pub QueryIsJob : Type 0
QueryIsJob =
    (s : Store) (q : Query) → Ranged (beside s q.variables) → check_follow_on (beside s q.variables) (asking q) ≡ accepted
    → buffer_rule (job_of (beside s q.variables) q.section) q.lent ≡ true
    → query s q ≡ run_job (job_of (beside s q.variables) q.section) q.budget q.lent

-- the jobs that a log loads are accepted
abbrev pub Brought : List Entry → Type 0
Brought [] = Unit {0}
Brought (load b ∷ xs) = (check_bytes b ≡ accepted) × Brought xs
Brought (transaction f ∷ xs) = Brought xs

-- which transactions finished
unfoldable pub decided : List Outcome → List Bool
decided ws = map commits ws

-- the lane of a reader
module _ (o : Level) where
  -- what stands after an entry: of a job the reader's view, and of a transaction what its run left, where it has finished. It is never viewed anew
  unfoldable pub entered : Store → Entry → Store
  entered s (load b) = view_store o (job_store b)
  entered s (transaction f) = commit s (follow s f)

  -- what becomes of each transaction of a log, from a store on
  unfoldable pub lane : Store → List Entry → List Outcome
  lane s [] = []
  lane s (load b ∷ xs) = lane (entered s (load b)) xs
  lane s (transaction f ∷ xs) = follow s f ∷ lane (entered s (transaction f)) xs

  -- what stands in the end
  unfoldable pub stands : Store → List Entry → Store
  stands s [] = s
  stands s (x ∷ xs) = stands (entered s x) xs

  -- the same transaction; or jobs whose stores show the reader the same
  abbrev pub AlikeEntry : Entry → Entry → Type 0
  AlikeEntry (load a) (load b) = AgreeStores o (job_store a) (job_store b)
  AlikeEntry (load a) (transaction g) = ⊥
  AlikeEntry (transaction f) (load b) = ⊥
  AlikeEntry (transaction f) (transaction g) = f ≡ g

  -- one by one alike
  abbrev pub AlikeLogs : List Entry → List Entry → Type 0
  AlikeLogs [] [] = Unit {0}
  AlikeLogs [] (y ∷ ys) = ⊥
  AlikeLogs (x ∷ xs) [] = ⊥
  AlikeLogs (x ∷ xs) (y ∷ ys) = AlikeEntry x y × AlikeLogs xs ys

  -- two lanes that are one: whole outcomes, with endings, indexes, steps, lines and last states, what stands in the end, and every query over it
  pub record OneLane (s t : Store) (xs ys : List Entry) : Type 0 where
    pub outcomes : lane s xs ≡ lane t ys
    pub stores : stands s xs ≡ stands t ys
    pub queries : (q : Query) → query (stands s xs) q ≡ query (stands t ys) q

  -- logs with the same transactions whose jobs show the reader the same have one lane, from whatever stands in it
  unfoldable pub NothingTold : Type 0
  NothingTold = (s : Store) (xs ys : List Entry) → AlikeLogs xs ys → OneLane s s xs ys

  -- and so from the views of stores that show the reader the same
  unfoldable pub NothingToldOfStores : Type 0
  NothingToldOfStores = (s t : Store) (xs ys : List Entry) → AgreeStores o s t → AlikeLogs xs ys → OneLane (view_store o s) (view_store o t) xs ys

  -- the same script, with budgets and buffers of each's own; or jobs whose stores show the reader the same
  abbrev pub SameEntry : Entry → Entry → Type 0
  SameEntry (load a) (load b) = AgreeStores o (job_store a) (job_store b)
  SameEntry (load a) (transaction g) = ⊥
  SameEntry (transaction f) (load b) = ⊥
  SameEntry (transaction f) (transaction g) = section_script f.section ≡ section_script g.section

  -- one by one the same
  abbrev pub SameLogs : List Entry → List Entry → Type 0
  SameLogs [] [] = Unit {0}
  SameLogs [] (y ∷ ys) = ⊥
  SameLogs (x ∷ xs) [] = ⊥
  SameLogs (x ∷ xs) (y ∷ ys) = SameEntry x y × SameLogs xs ys

  -- as many outcomes, not to be told apart "up to and including the first" that finishes in one lane alone
  abbrev pub IndistinguishableLanes : List Outcome → List Outcome → Type 0
  IndistinguishableLanes [] [] = Unit {0}
  IndistinguishableLanes [] (x ∷ xs) = ⊥
  IndistinguishableLanes (w ∷ ws) [] = ⊥
  IndistinguishableLanes (w ∷ ws) (x ∷ xs) = Indistinguishable o w x × (commits w ≡ commits x → IndistinguishableLanes ws xs)

-- what two stores show the reader o: the same view, and whatever is run over them next, script or query, looks the same
pub record SameStores (o : Level) (s t : Store) : Type 0 where
  pub agree : AgreeStores o s t
  pub view : view_store o s ≡ view_store o t
  pub scripts : (f g : FollowOn) → section_script f.section ≡ section_script g.section → Indistinguishable o (follow s f) (follow t g)
  pub queries : (q r : Query) → AgreeVariables o q.variables r.variables → section_script q.section ≡ section_script r.section
      → Indistinguishable o (query s q) (query t r)

-- what two lanes show the reader o, by their outcomes and what stands in them in the end
pub record Together (o : Level) (ws xs : List Outcome) (s t : Store) : Type 0 where
  -- what becomes of the transactions, up to the first that finishes in one lane alone
  pub outcomes : IndistinguishableLanes o ws xs
  -- where the same ones finished, o sees the same boards, and the same of what stands
  pub boards : decided ws ≡ decided xs → seen_boards o (map published ws) ≡ seen_boards o (map published xs)
  pub stores : decided ws ≡ decided xs → SameStores o s t

-- the lanes of two readers, from stores of their own
abbrev pub LanesTogether : (o p : Level) (s t : Store) (xs ys : List Entry) → Type 0
LanesTogether o p s t xs ys = Together o (lane o s xs) (lane p t ys) (stands o s xs) (stands p t ys)

-- the lane of o goes together with that of every p who has the parties of o, whatever the budgets and buffers of either
unfoldable pub Faithful : Level → Type 0
Faithful o =
    (p : Level) (s t : Store) (xs ys : List Entry) → not_above o p ≡ true → AgreeStores o s t → Brought xs → Brought ys → SameLogs o xs ys
    → LanesTogether o p s t xs ys

-- and so for one log, from the views of one store, be it nothing
unfoldable pub FaithfulToLog : Level → Type 0
FaithfulToLog o =
    (p : Level) (s : Store) (xs : List Entry) → not_above o p ≡ true → TreeRules s.tree → Brought xs → LanesTogether o p (view_store o s) (view_store p s) xs xs

-- lanes that have parted come together again with the next load, whatever stands in them
unfoldable pub Mends : Level → Type 0
Mends o =
    (p : Level) (s t : Store) (a b : List ℕ) (xs ys : List Entry) → not_above o p ≡ true → Brought (load a ∷ xs) → Brought (load b ∷ ys)
    → SameLogs o (load a ∷ xs) (load b ∷ ys) → LanesTogether o p s t (load a ∷ xs) (load b ∷ ys)

-- a lane goes on from what stands in it
unfoldable pub GoesOn : Level → Type 0
GoesOn o =
    (s : Store) (xs ys : List Entry)
    → (lane o s (xs ++ ys) ≡ lane o s xs ++ lane o (stands o s xs) ys) × (stands o s (xs ++ ys) ≡ stands o (stands o s xs) ys)

-- from the first load on, no script is turned away for what stands in a lane
pub record LaneKept (o : Level) : Type 0 where
  pub rule : (s : Store) (xs : List Entry) → store_rule s ≡ true → Brought xs → store_rule (stands o s xs) ≡ true
  pub loaded : (s : Store) (b : List ℕ) (xs : List Entry) → Brought (load b ∷ xs) → store_rule (stands o s (load b ∷ xs)) ≡ true

-- a log as a season: each load with a budget and buffers
module _ (n : ℕ) (lent : Buffers) where
  -- an entry as a transaction, a job as what is made of it
  unfoldable pub housed : (List ℕ → List ℕ) → Entry → Transaction
  housed made (load b) = Season.load (record { job = made b; budget = n; lent = lent })
  housed made (transaction f) = Season.script f

  -- the jobs that a log loads are taken, and have no script
  abbrev pub Scriptless : List Entry → Type 0
  Scriptless [] = Unit {0}
  Scriptless (load b ∷ xs) = (check_job b n lent ≡ accepted) × (Job.script b ≡ []) × Scriptless xs
  Scriptless (transaction f ∷ xs) = Scriptless xs

-- the outcomes of a log's entries without those of loads
unfoldable pub unloaded : List Entry → List Outcome → List Outcome
unloaded [] ws = []
unloaded (x ∷ xs) [] = []
unloaded (load b ∷ xs) (w ∷ ws) = unloaded xs ws
unloaded (transaction f ∷ xs) (w ∷ ws) = w ∷ unloaded xs ws

-- a lane is the season of a log, with its jobs as something is made of them
unfoldable pub LaneIsSeason : Level → (List ℕ → List ℕ) → Type 0
LaneIsSeason o made =
    (n : ℕ) (lent : Buffers) (s : Store) (xs : List Entry) → Scriptless n lent xs
    → (lane o s xs ≡ unloaded xs (season s (map (housed n lent made) xs))) × (stands o s xs ≡ closing s (map (housed n lent made) xs))

-- so what the lane of o shows o is what the house's season shows, as long as the same transactions finish in both
unfoldable pub FaithfulToHouse : Level → Type 0
FaithfulToHouse o =
    (n : ℕ) (lent : Buffers) (s : Store) (xs : List Entry) → is_level o ≡ true → all_levels s.variables ≡ true → TreeRules s.tree → Scriptless n lent xs
    → Together o (lane o (view_store o s) xs) (unloaded xs (season s (map (housed n lent (λ b. b)) xs))) (stands o (view_store o s) xs)
    (closing s (map (housed n lent (λ b. b)) xs))

-- what the lane of a reader o is
pub record LaneRight (o : Level) : Type 0 where
  pub on : GoesOn o
  pub kept : LaneKept o
  -- it is what comes of running all over the views of jobs, as bytes
  pub season : LaneIsSeason o (project o)
  -- jobs that are alike are alike as loads
  pub loads : (a b : List ℕ) → Alike o a b → AlikeEntry o (load a) (load b)
  pub told : NothingTold o
  pub told_of_stores : NothingToldOfStores o
  pub faithful : Faithful o
  pub faithful_to_log : FaithfulToLog o
  pub mends : Mends o
  pub faithful_to_house : FaithfulToHouse o

-- of every reader; who has all parties has the house's own season for a lane; and what a query is
pub record LanesRight : Type 0 where
  pub reader : (o : Level) → LaneRight o
  pub house : LaneIsSeason everyone (λ b. b)
  pub queries : QueryIsJob
