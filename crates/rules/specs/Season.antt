-- Transactions over a standing store: a script or a load is committed where its run has finished, and else rolled back; only what is committed is published. The secrecy
-- rule for whole seasons of them, also beyond a stop, and how many seasons a reader can tell apart. Assumes nothing.
use Rattle.std.specs.Prelude.{◌≡◌, ℕ, zero, suc, ◌+◌, ◌^◌, ◌≤◌, Bool, true, false, cond, List, [], ◌∷◌, map, length}
use Rattle.std.proofs.Math.Option
use Rattle.std.proofs.Math.Option.{Option, none, some}
use Rattle.rules.specs.Level.{Level}
use Rattle.rules.specs.Check.{accepted, check_bytes}
use Rattle.rules.specs.Run.{Line, Buffers, Ending, finished, stopped}
use Rattle.rules.specs.Outcome.{Outcome, rejected, ran, run_job, board_lines}
use Rattle.rules.specs.Public.{Alike, seen_lines}
use Rattle.rules.specs.Board.{Different}
use Rattle.rules.specs.History.{Store, FollowOn, section_script, follow, leaves, AgreeStores}

-- a job by which the house loads anew, with its budget and the caller's buffers
pub record Load : Type 0 where
  pub job : List ℕ
  pub budget : ℕ
  pub lent : Buffers

-- a transaction: a follow-on script over what stands, or a load in its place
pub data Transaction : Type 0 where
  script : FollowOn → Transaction
  load : Load → Transaction

-- what becomes of a transaction over a store: a load's run does not look at it
unfoldable pub attempt : Store → Transaction → Outcome
attempt s (script f) = follow s f
attempt s (load l) = run_job l.job l.budget l.lent

-- whether an ending is that of a run that has finished
unfoldable pub is_finished : Ending → Bool
is_finished finished = true
is_finished (stopped k) = false

-- the verdict: a transaction is committed where its run has finished; one that is stopped or turned away is rolled back
unfoldable pub commits : Outcome → Bool
commits (rejected k i) = false
commits (ran e) = is_finished e.ending

-- "publish finished boards only": all lines of a run that has finished, and nothing of any other
unfoldable pub published : Outcome → Option (List Line)
published w = cond (commits w) (some (board_lines w)) none

-- "Keep a copy .. and put it back": what the run left where it is committed, else the store before
unfoldable pub commit : Store → Outcome → Store
commit s w = cond (commits w) (leaves s w) s

-- transaction after transaction: what becomes of each
unfoldable pub season : Store → List Transaction → List Outcome
season s [] = []
season s (x ∷ xs) = attempt s x ∷ season (commit s (attempt s x)) xs

-- the store at the end of a season
unfoldable pub closing : Store → List Transaction → Store
closing s [] = s
closing s (x ∷ xs) = closing (commit s (attempt s x)) xs

-- which transactions of a season are committed
unfoldable pub verdicts : Store → List Transaction → List Bool
verdicts s xs = map commits (season s xs)

-- the boards that a season publishes, one or none for each transaction
unfoldable pub boards : Store → List Transaction → List (Option (List Line))
boards s xs = map published (season s xs)

-- how many are rolled back
unfoldable pub rollbacks : List Bool → ℕ
rollbacks [] = zero
rollbacks (true ∷ bs) = rollbacks bs
rollbacks (false ∷ bs) = suc (rollbacks bs)

-- how many lists of n verdicts have at most q rollbacks: the sum of n over i, for i from 0 to q
unfoldable pub ways : ℕ → ℕ → ℕ
ways zero q = 1
ways (suc n) zero = 1
ways (suc n) (suc q) = ways n (suc q) + ways n q

module _ (o : Level) where
  -- what the reader o sees of the boards of a season: of each none, or the lines that are for o
  unfoldable pub seen_boards : List (Option (List Line)) → List (Option (List Line))
  seen_boards bs = map (Option.map (seen_lines o)) bs

  -- the same script; or loads of accepted jobs that are alike for o. Budgets and buffers are each's own
  abbrev pub AlikeTransaction : Transaction → Transaction → Type 0
  AlikeTransaction (script f) (script g) = section_script f.section ≡ section_script g.section
  AlikeTransaction (script f) (load m) = ⊥
  AlikeTransaction (load l) (script g) = ⊥
  AlikeTransaction (load l) (load m) = (check_bytes l.job ≡ accepted) × (check_bytes m.job ≡ accepted) × Alike o l.job m.job

  -- one by one alike
  abbrev pub AlikeSeasons : List Transaction → List Transaction → Type 0
  AlikeSeasons [] [] = Unit {0}
  AlikeSeasons [] (y ∷ ys) = ⊥
  AlikeSeasons (x ∷ xs) [] = ⊥
  AlikeSeasons (x ∷ xs) (y ∷ ys) = AlikeTransaction x y × AlikeSeasons xs ys

  -- what two seasons show o: the same boards, and stores at the end that agree
  pub record SameSeasons (s t : Store) (xs ys : List Transaction) : Type 0 where
    pub seen : seen_boards (boards s xs) ≡ seen_boards (boards t ys)
    pub stores : AgreeStores o (closing s xs) (closing t ys)

  -- two seasons that are alike, from stores that agree for o: where the same transactions are committed, o cannot tell them apart
  unfoldable pub SeasonSecrecy : Type 0
  SeasonSecrecy =
      (s t : Store) (xs ys : List Transaction) → AgreeStores o s t → AlikeSeasons xs ys → verdicts s xs ≡ verdicts t ys → SameSeasons s t xs ys

  -- and the other way round: what o sees of a season tells which are committed, so that much is told
  unfoldable pub SeasonTells : Type 0
  SeasonTells = (s t : Store) (xs ys : List Transaction) → seen_boards (boards s xs) ≡ seen_boards (boards t ys) → verdicts s xs ≡ verdicts t ys

-- seasons of n transactions that are alike for the reader o, from stores that agree
pub record Seasons {ℓ} (o : Level) (n : ℕ) (I : Type ℓ) : Type ℓ where
  pub store : I → Store
  pub transactions : I → List Transaction
  pub many : (i : I) → length (transactions i) ≡ n
  pub agree : (i j : I) → AgreeStores o (store i) (store j)
  pub alike : (i j : I) → AlikeSeasons o (transactions i) (transactions j)

module _ {ℓ} {o : Level} {n : ℕ} {I : Type ℓ} (S : Seasons o n I) where
  -- what the reader sees of a season
  unfoldable pub shows : I → List (Option (List Line))
  shows i = seen_boards o (boards (S.store i) (S.transactions i))

  -- how many of its transactions are rolled back
  unfoldable pub rolled_back : I → ℕ
  rolled_back i = rollbacks (verdicts (S.store i) (S.transactions i))

  -- how much seasons tell: with at most q rollbacks there are at most `ways n q` different ones, in all at most 2 ^ n, a bit for each transaction
  pub record BoundedSeasons : Type ℓ where
    pub few : (q : ℕ) (is : List I) → Different shows rolled_back q is → length is ≤ ways n q
    pub bits : (q : ℕ) (is : List I) → Different shows rolled_back q is → length is ≤ 2 ^ n

-- the seasons of every such family are bounded
unfoldable pub SeasonBound {ℓ} : Level → Type (ℓ + 1)
SeasonBound o = (n : ℕ) (I : Type ℓ) (S : Seasons o n I) → BoundedSeasons S
