-- Two seasons that are alike, from stores that agree, look the same where the same transactions are committed: a run that is committed has finished in both, so its
-- lines and what it leaves agree, and one that is rolled back leaves what agreed before. So there are no more seasons to tell apart than verdicts. Assumes nothing.
use mathlib.Core.Path.{◌≡◌, refl, sym, ◌∙◌, ap}
use Prim.Native.Nat.{ℕ, suc, ◌≤◌}
use native.Mathlib.Omega.{arith}
use mathlib.Core.Bool.{Bool, true, false}
use mathlib.Core.Option
use mathlib.Core.Option.{Option, none, some}
use mathlib.Core.List.{List, [], ◌∷◌, map}
use lib.ListN.{length, length-map}
use Rattle.rules.specs.Level.{Level}
use Rattle.rules.specs.Run.{Line, State, Ending, finished, stopped}
use Rattle.rules.specs.Outcome.{Outcome, rejected, ran, board_lines}
use Rattle.rules.specs.Public.{seen_lines, Finishes, Indistinguishable, Noninterference}
use Rattle.rules.specs.Board.{Different}
use Rattle.rules.specs.History.{Store, leaves, AgreeStores}
use Rattle.rules.specs.Season.{Transaction, script, load, attempt, is_finished, commits, published, commit, season, closing, verdicts, boards, ways, seen_boards, AlikeTransaction, AlikeSeasons, SameSeasons, SeasonSecrecy, SeasonTells, Seasons, shows, rolled_back, BoundedSeasons, SeasonBound}
use Rattle.rules.proofs.Tests.{Test, holds, fails, test, clash}
use Rattle.rules.proofs.Noninterference.{noninterference}
use Rattle.rules.proofs.History.{one_script}
use Rattle.rules.proofs.Verdicts.{few_told, ways_bits}

-- a run that is committed has finished
finished_ending : (k : Ending) → is_finished k ≡ true → k ≡ finished
unfolding is_finished
finished_ending finished e = refl
finished_ending (stopped k) e = clash e refl

pub committed_finishes : (w : Outcome) → commits w ≡ true → (s : State) × Finishes w s
unfolding commits
committed_finishes (rejected k i) e = clash e refl
committed_finishes (ran d) e = let f = finished_ending d.ending e in (d.last, λ i. ran (record { ending = f i; last = d.last }))

pub heads : {A : Type 0} {a b : A} {ls ms : List A} → a ∷ ls ≡ b ∷ ms → a ≡ b
heads q = cc

pub tails : {A : Type 0} {a b : A} {ls ms : List A} → a ∷ ls ≡ b ∷ ms → ls ≡ ms
tails q = cc

-- whether there is a board
is_board : Option (List Line) → Bool
is_board none = false
is_board (some ls) = true

module _ (o : Level) where
  -- what o sees of one outcome
  unfoldable pub sees : Outcome → Option (List Line)
  sees w = Option.map (seen_lines o) (published w)

  -- one transaction in two seasons
  one_attempt : (s t : Store) (x y : Transaction) → AgreeStores o s t → AlikeTransaction o x y → Indistinguishable o (attempt s x) (attempt t y)
  unfolding attempt Noninterference
  one_attempt s t (script f) (script g) a e = one_script o s t f g a e
  one_attempt s t (load l) (load m) a e = noninterference o l.job m.job l.budget m.budget l.lent m.lent e.0 e.1 e.2
  one_attempt s t (script f) (load m) a e = elim e [ ]
  one_attempt s t (load l) (script g) a e = elim e [ ]

  module _ (s t : Store) (w x : Outcome) (agree : AgreeStores o s t) (same : Indistinguishable o w x) (verdict : commits w ≡ commits x) where
    -- the same is seen of both, and what stands agrees again
    pub one_verdict : (sees w ≡ sees x) × AgreeStores o (commit s w) (commit t x)
    unfolding sees published commit board_lines leaves
    one_verdict = pick (test (commits w))
      where
        pick : Test (commits w) → (sees w ≡ sees x) × AgreeStores o (commit s w) (commit t x)
        pick (fails e) = rw (sym verdict, e) (refl, agree)
        pick (holds e) =
            let p = committed_finishes w e in
            let q = committed_finishes x (sym verdict ∙ e) in
            let m = same.finish p.0 q.0 p.1 q.1 in
            rw (e, sym verdict ∙ e, p.1, q.1) (ap some m.lines, m.parts)

  seasons : (xs ys : List Transaction) (s t : Store) → AgreeStores o s t → AlikeSeasons o xs ys → verdicts s xs ≡ verdicts t ys → SameSeasons o s t xs ys
  unfolding verdicts season boards closing seen_boards sees
  seasons [] [] s t a e v = record { seen = refl; stores = a }
  seasons [] (y ∷ ys) s t a e v = elim e [ ]
  seasons (x ∷ xs) [] s t a e v = elim e [ ]
  seasons (x ∷ xs) (y ∷ ys) s t a e v =
      let w = one_attempt s t x y a e.0 in
      let k = one_verdict s t (attempt s x) (attempt t y) a w (heads v) in
      let r = seasons xs ys (commit s (attempt s x)) (commit t (attempt t y)) k.1 e.1 (tails v) in
      record { seen = λ i. k.0 i ∷ r.seen i; stores = r.stores }

  pub season_secrecy : SeasonSecrecy o
  unfolding SeasonSecrecy
  season_secrecy s t xs ys = seasons xs ys s t

  one_told : (w : Outcome) → is_board (sees w) ≡ commits w
  unfolding sees published is_board
  one_told w = pick (test (commits w))
    where
      pick : Test (commits w) → is_board (sees w) ≡ commits w
      pick (holds e) = rw e
      pick (fails e) = rw e

  all_told : (ws : List Outcome) → map is_board (seen_boards o (map published ws)) ≡ map commits ws
  unfolding seen_boards sees
  all_told [] = refl
  all_told (w ∷ ws) = let p = one_told w in let q = all_told ws in λ i. p i ∷ q i

  pub season_tells : SeasonTells o
  unfolding SeasonTells verdicts boards
  season_tells s t xs ys e = sym (all_told (season s xs)) ∙ ap (map is_board) e ∙ all_told (season t ys)

season_length : (s : Store) (xs : List Transaction) → length (season s xs) ≡ length xs
unfolding season
season_length s [] = refl
season_length s (x ∷ xs) = ap suc (season_length (commit s (attempt s x)) xs)

module _ {ℓ} (o : Level) (n : ℕ) {I : Type ℓ} (S : Seasons o n I) where
  verdicts_of : I → List Bool
  verdicts_of i = verdicts (S.store i) (S.transactions i)

  many : (i : I) → length (verdicts_of i) ≡ n
  unfolding verdicts_of verdicts
  many i = length-map (season (S.store i) (S.transactions i)) commits ∙ season_length (S.store i) (S.transactions i) ∙ S.many i

  -- seasons with the same verdicts are not to be told apart
  told : (i j : I) → verdicts_of i ≡ verdicts_of j → shows S i ≡ shows S j
  unfolding verdicts_of shows SeasonSecrecy
  told i j e = (season_secrecy o _ _ _ _ (S.agree i j) (S.alike i j) e).seen

  few_seasons : (q : ℕ) (is : List I) → Different (shows S) (rolled_back S) q is → length is ≤ ways n q
  unfolding rolled_back verdicts_of
  few_seasons = few_told n verdicts_of (shows S) many told

  pub bounded_seasons : BoundedSeasons S
  bounded_seasons =
      record { few = few_seasons; bits = λ q is h. let l = few_seasons q is h in let b = ways_bits n q in omega (arith, l, b) }

pub season_bound {ℓ} : (o : Level) → SeasonBound {ℓ} o
unfolding SeasonBound
season_bound o n I S = bounded_seasons o n S
