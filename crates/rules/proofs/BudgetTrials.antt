-- Larger budgets by computation: a job, a history and a run that takes turns, which 25 stops under the smaller and which go on under the larger; and why
-- the comparison ends at the first 25. Assumes nothing.
use mathlib.Core.Path.{◌≡◌, refl}
use Prim.Native.Nat.{ℕ}
use native.Mathlib.Omega.{arith}
use mathlib.Core.List.{List, [], ◌∷◌, map, flat_map}
use mathlib.Core.Option.{Option, none, some}
use lib.IntN.{ℤ, pos}
use Rattle.rules.specs.Outcome.{Answer, answer, run_job}
use Rattle.rules.specs.Trials.{usual, one, number, value, with_places}
use Rattle.rules.specs.History.{FollowOn, history, job_store}
use Rattle.rules.specs.Rounds
use Rattle.rules.specs.Rounds.{Newcomer, Event, arrives, turn, Reply, joins, goes_on, idle, reply_at}
use Rattle.rules.specs.Budget.{Raised, AllRaised}
use Rattle.rules.proofs.Computed.{computed}
use Rattle.rules.proofs.Pairs.{Seen, seen}

-- print value, print 4, print 5
pub three : List ℕ
three = usual (pos 0) (one 6 0 value ∷ one 6 0 (number (pos 4)) ∷ one 6 0 (number (pos 5)) ∷ [])

pub answers : ℕ → ℕ → ℕ → ℕ → Answer
answers k i s l = record { ending = k; index = i; steps = s; lines = l }

-- 9 without a budget and with one that is too large; 25 with two lines of three; the same from three steps on
pub job_holds :
    map (λ n. answer (run_job three n (with_places 512))) (0 ∷ 2 ∷ 3 ∷ 1000000 ∷ 1000001 ∷ [])
    ≡ answers 9 0 0 0 ∷ answers 25 2 2 2 ∷ answers 0 0 3 3 ∷ answers 0 0 3 3 ∷ answers 9 0 0 0 ∷ []
unfolding computed three answers
job_holds = refl

pub raised : Raised 2 3
unfolding computed
raised = record { smaller = refl; larger = refl; grows = omega arith }

-- a bare section of some records, with a budget
pub script : ℕ → List (List ℕ) → FollowOn
script n cs = record { section = flat_map (λ r. r) cs; budget = n; lent = with_places 512 }

-- print value, write 5; then print value, write 7, with a budget n; then print value
pub scripts : ℕ → List FollowOn
scripts n =
    script 2 (one 6 0 value ∷ one 15 0 (number (pos 5)) ∷ []) ∷ script n (one 6 0 value ∷ one 15 0 (number (pos 7)) ∷ [])
    ∷ script 1 (one 6 0 value ∷ []) ∷ []

pub scripts_raised : AllRaised (scripts 1) (scripts 2)
unfolding computed script scripts
scripts_raised = (
  record { section = refl; budget = record { smaller = refl; larger = refl; grows = omega arith }; lent = refl },
  (
    record { section = refl; budget = record { smaller = refl; larger = refl; grows = omega arith }; lent = refl },
    (record { section = refl; budget = record { smaller = refl; larger = refl; grows = omega arith }; lent = refl }, tt),
  ),
)

-- ending, index and lines
pub came : ℕ → ℕ → List ℤ → Seen
came k i ls = record { ending = k; index = i; lines = ls }

-- the second script ends with 25 under the smaller budget; beyond it the histories differ
pub spent_tells :
    (map seen (history (job_store three) (scripts 1)) ≡ came 0 0 (pos 10 ∷ []) ∷ came 25 1 (pos 5 ∷ []) ∷ came 0 0 (pos 5 ∷ []) ∷ [])
    × (map seen (history (job_store three) (scripts 2)) ≡ came 0 0 (pos 10 ∷ []) ∷ came 0 0 (pos 5 ∷ []) ∷ came 0 0 (pos 7 ∷ []) ∷ [])
unfolding computed seen three came script scripts
spent_tells = (refl, refl)

-- the same job as a newcomer, with a budget
pub newcomer : ℕ → Newcomer
newcomer n = record { name = n; job = three; budget = n; lent = with_places 512 }

pub handed : Reply → Option Answer
handed (joins g) = none
handed (Reply.answers g w) = some (answer w)
handed (goes_on g) = none
handed idle = none

-- under the smaller budget alone, under the larger behind another
pub rounds_hold :
    (handed (reply_at (arrives (newcomer 2) ∷ turn ∷ []) 1) ≡ some (answers 25 2 2 2))
    × (handed (reply_at (arrives (newcomer 1) ∷ arrives (newcomer 3) ∷ turn ∷ turn ∷ []) 3) ≡ some (answers 0 0 3 3))
unfolding computed Rounds.fresh Rounds.admit Rounds.arrive Rounds.turn_of Rounds.unended Rounds.later Rounds.take_turn Rounds.happen Rounds.replies Rounds.reply_at three answers newcomer handed
rounds_hold = (refl, refl)
