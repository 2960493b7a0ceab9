-- Lanes by computation: before the first load every script is turned away; two lanes go together, or part at a transaction that finishes in one alone and come
-- together again with the next load; what a lane itself makes of hidden parts stays; and a query sees what stands, and its own. Assumes nothing.
use mathlib.Core.Path.{◌≡◌, refl}
use Prim.Native.Nat.{ℕ}
use mathlib.Core.List.{List, [], ◌∷◌, ◌++◌, map}
use lib.IntN.{ℤ, pos}
use Rattle.rules.specs.Level.{Level, public}
use Rattle.rules.specs.Trials.{usual, one, guarded, number, v, with_places}
use Rattle.rules.specs.Projection.{everyone}
use Rattle.rules.specs.Lanes.{Entry, load, transaction, Query, nothing, query, lane, stands, AlikeLogs, Scriptless}
use Rattle.rules.proofs.Computed.{computed}
use Rattle.rules.proofs.Pairs.{Seen, seen}
use Rattle.rules.proofs.HistoryTrials.{came, script}

-- some records as a transaction
pub does : List (List ℕ) → Entry
does cs = transaction (script 100 512 cs)

-- print v0
print : Entry
print = does (one 6 0 (v 0) ∷ [])

-- if v1, remove first child, end, v0 := 1
pub tries : Entry
tries = does (guarded 13 ++ (one 1 0 (number (pos 1)) ∷ []))

-- print; a job with the house variable h; what stops where v1 is not 0; print; the job again; print
pub log : ℤ → List Entry
log h = print ∷ load (usual h []) ∷ tries ∷ print ∷ load (usual h []) ∷ print ∷ []

-- what is seen of a lane from nothing on
unfoldable pub runs_in : Level → List Entry → List Seen
runs_in o xs = map seen (lane o nothing xs)

-- with 0 the lanes of the public and of everyone go together
pub lanes_together :
    (runs_in public (log (pos 0)) ≡ came 11 0 [] ∷ came 0 0 [] ∷ came 0 0 (pos 1 ∷ []) ∷ came 0 0 (pos 0 ∷ []) ∷ [])
    × (runs_in everyone (log (pos 0)) ≡ came 11 0 [] ∷ came 0 0 [] ∷ came 0 0 (pos 1 ∷ []) ∷ came 0 0 (pos 0 ∷ []) ∷ [])
unfolding computed seen came script does print tries log runs_in
lanes_together = (refl, refl)

-- with 1 that of everyone parts, until the job is loaded again; that of the public is what it was
pub lanes_part :
    (runs_in public (log (pos 1)) ≡ came 11 0 [] ∷ came 0 0 [] ∷ came 0 0 (pos 1 ∷ []) ∷ came 0 0 (pos 0 ∷ []) ∷ [])
    × (runs_in everyone (log (pos 1)) ≡ came 11 0 [] ∷ came 21 1 [] ∷ came 0 0 (pos 0 ∷ []) ∷ came 0 0 (pos 0 ∷ []) ∷ [])
unfolding computed seen came script does print tries log runs_in
lanes_part = (refl, refl)

-- v1 := 1, and what stops where v1 is not 0: it stops in both lanes, though v1 is hidden from the public
pub hidden_stays :
    map (λ o. runs_in o (load (usual (pos 0) []) ∷ does (one 1 1 (number (pos 1)) ∷ []) ∷ tries ∷ [])) (public ∷ everyone ∷ [])
    ≡ (came 0 0 [] ∷ came 21 1 [] ∷ []) ∷ (came 0 0 [] ∷ came 21 1 [] ∷ []) ∷ []
unfolding computed seen came script does tries runs_in
hidden_stays = refl

-- v0 := v2, print v0, with a variable v2 of its own, which is 4; and print v0
pub asked : List Query
asked =
    record { variables = record { level = public; value = pos 4 } ∷ []; section = one 1 0 (v 2) ++ one 6 0 (v 0); budget = 100; lent = with_places 512 }
    ∷ record { variables = []; section = one 6 0 (v 0); budget = 100; lent = with_places 512 } ∷ []

-- over what stands after v0 := 1, and over nothing
pub queries_hold :
    (map (λ q. seen (query (stands public nothing (load (usual (pos 0) []) ∷ tries ∷ [])) q)) asked ≡ came 0 0 (pos 4 ∷ []) ∷ came 0 0 (pos 1 ∷ []) ∷ [])
    × (map (λ q. seen (query nothing q)) asked ≡ came 11 0 [] ∷ came 11 0 [] ∷ [])
unfolding computed seen came script does tries asked
queries_hold = (refl, refl)

-- the two logs are alike for the public, and the house can load their jobs
pub logs_alike : AlikeLogs public (log (pos 0)) (log (pos 1))
unfolding computed script does print tries log
logs_alike = (refl, (record { variables = refl; trees = λ p. refl }, (refl, (refl, (record { variables = refl; trees = λ p. refl }, (refl, tt))))))

pub logs_housed : Scriptless 100 (with_places 512) (log (pos 1))
unfolding computed script does print tries log
logs_housed = (refl, refl, (refl, refl, tt))
