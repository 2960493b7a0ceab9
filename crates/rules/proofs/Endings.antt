-- How a job can end: it is turned back with a number of its own, finishes with 0, or is stopped. Assumes nothing.
use mathlib.Core.Path.{◌≡◌, refl}
use Prim.Native.Nat.{ℕ}
use native.Mathlib.Omega.{arith}
use mathlib.Core.List.{List}
use Rattle.rules.specs.Check.{Checked, accepted, refused}
use Rattle.rules.specs.Run.{State, Buffers, Stop, flow, absent, tableFull, boardFull, spent, overflow, stop_number, Ending, finished, stopped}
use Rattle.rules.specs.Outcome.{check_job, Outcome, rejected, ran, run_job, ending_number, answer}
use Rattle.rules.specs.Public.{Finishes}
use Rattle.rules.proofs.Checks.{refuses_with, Numbered, job_numbered}
use Rattle.rules.proofs.Noninterference.{turned_back_law, runs}

-- only a finished run has the number 0
stop_number_law : (k : Stop) → stop_number k ≡ 0 → ⊥
unfolding stop_number
stop_number_law flow e = omega arith
stop_number_law absent e = omega arith
stop_number_law tableFull e = omega arith
stop_number_law boardFull e = omega arith
stop_number_law spent e = omega arith
stop_number_law overflow e = omega arith

ends : (k : Ending) → ending_number k ≡ 0 → k ≡ finished
unfolding ending_number
ends finished e = refl
ends (stopped k) e = absurd (stop_number_law k e)

-- an outcome is turned back with a number of its own, or the job was run
abbrev pub Among : Outcome → Type 0
Among (rejected k i) = Numbered k
Among (ran e) = Unit {0}

-- the ending 0 is that of a run that has finished
pub finishes_among : (w : Outcome) → Among w → (answer w).ending ≡ 0 → (s : State) × Finishes w s
unfolding answer
finishes_among (rejected k i) h z = absurd (let g = h.0 in omega arith)
finishes_among (ran e) h z = let f = ends e.ending z in (e.last, λ i. ran (record { ending = f i; last = e.last }))

module _ (b : List ℕ) (budget : ℕ) (lent : Buffers) where
  job_among : Among (run_job b budget lent)
  job_among = pick (check_job b budget lent) refl
    where
      pick : (c : Checked) → check_job b budget lent ≡ c → Among (run_job b budget lent)
      pick accepted e = rw (runs b budget lent e) tt
      pick (refused k i) e = rw (turned_back_law b budget lent e) (refuses_with Numbered _ k i e (job_numbered b budget lent))

  pub finishes : (answer (run_job b budget lent)).ending ≡ 0 → (s : State) × Finishes (run_job b budget lent) s
  finishes = finishes_among (run_job b budget lent) job_among
