-- Rounds by computation: a run that loops goes on after its first turn, a short one ends in its first, a job that is turned back takes no place, the ninth
-- is turned away before its job is read, and the place of an ended run is used again; what comes right after step 5,000. Assumes nothing.
use mathlib.Core.Path.{◌≡◌, refl}
use Prim.Native.Nat.{ℕ}
use mathlib.Core.List.{List, [], ◌∷◌, map}
use mathlib.Core.Option.{Option, none, some}
use lib.IntN.{pos}
use Rattle.rules.specs.Outcome.{Answer, answer}
use Rattle.rules.specs.Trials.{usual, one, both, bare, number, v, value, with_places}
use Rattle.rules.specs.Rounds
use Rattle.rules.specs.Rounds.{Newcomer, Event, arrives, turn, Reply, joins, answers, goes_on, idle, replies}
use Rattle.rules.proofs.Computed.{computed}

-- who gets a reply, and the answer if it hands back one
pub record Shown : Type 0 where
  pub name : Option ℕ
  pub answer : Option Answer

pub shown : Reply → Shown
shown (joins g) = record { name = some g.name; answer = none }
shown (answers g w) = record { name = some g.name; answer = some (answer w) }
shown (goes_on g) = record { name = some g.name; answer = none }
shown idle = record { name = none; answer = none }

-- nobody is there
pub nobody : Shown
nobody = record { name = none; answer = none }

-- no answer yet
pub silent : ℕ → Shown
silent a = record { name = some a; answer = none }

-- ending, index, steps and lines
pub told : ℕ → ℕ → ℕ → ℕ → ℕ → Shown
told a k i s l = record { name = some a; answer = some (record { ending = k; index = i; steps = s; lines = l }) }

-- a newcomer by name, script and budget
pub with_budget : ℕ → List (List ℕ) → ℕ → Newcomer
with_budget a cs n = record { name = a; job = usual (pos 0) cs; budget = n; lent = with_places 512 }

-- while 1, end
pub loop : List (List ℕ)
loop = one 4 0 (number (pos 1)) ∷ bare 5 ∷ []

-- an idle turn; budgets of one step more than a turn, of none, of a turn; print value; an empty script
pub events : List Event
events =
    turn ∷ arrives (with_budget 1 loop 5001) ∷ arrives (with_budget 2 loop 0) ∷ arrives (with_budget 3 (one 6 0 value ∷ []) 1)
    ∷ arrives (with_budget 4 loop 5000) ∷ arrives (with_budget 5 [] 1) ∷ turn ∷ turn ∷ turn ∷ turn ∷ turn ∷ turn ∷ []

pub turns_hold :
    map shown (replies [] events)
    ≡ nobody ∷ silent 1 ∷ told 2 9 0 0 0 ∷ silent 3 ∷ silent 4 ∷ silent 5 ∷ silent 1 ∷ told 3 0 0 1 1 ∷ told 4 25 0 5000 0 ∷ told 5 0 0 0 0 ∷ told 1 25 1 5001 0 ∷ nobody ∷ []
unfolding computed Rounds.alone Rounds.fresh Rounds.admit Rounds.arrive Rounds.turn_of Rounds.unended Rounds.later Rounds.take_turn Rounds.happen Rounds.replies shown nobody silent told with_budget loop events
turns_hold = refl

-- eight that print a line
pub eight : List Event → List Event
eight xs =
    arrives (quick 1) ∷ arrives (quick 2) ∷ arrives (quick 3) ∷ arrives (quick 4) ∷ arrives (quick 5) ∷ arrives (quick 6) ∷ arrives (quick 7) ∷ arrives (quick 8) ∷ xs
  where
    quick : ℕ → Newcomer
    quick a = with_budget a (one 6 0 value ∷ []) 1

-- the ninth, without a budget, is turned away with 15, and after a turn with 9; another has the place then
pub full_holds :
    map shown (replies [] (eight (arrives (with_budget 9 [] 0) ∷ turn ∷ arrives (with_budget 9 [] 0) ∷ arrives (with_budget 10 [] 1) ∷ [])))
    ≡ silent 1 ∷ silent 2 ∷ silent 3 ∷ silent 4 ∷ silent 5 ∷ silent 6 ∷ silent 7 ∷ silent 8 ∷ told 9 15 0 0 0 ∷ told 1 0 0 1 1 ∷ told 9 9 0 0 0 ∷ silent 10 ∷ []
unfolding computed Rounds.alone Rounds.fresh Rounds.admit Rounds.arrive Rounds.turn_of Rounds.unended Rounds.later Rounds.take_turn Rounds.happen Rounds.replies shown nobody silent told with_budget eight
full_holds = refl

-- while v0 < 1666, v0 := v0 + 1, end; skip: 5,000 steps, and then some records
pub after_a_turn : List (List ℕ) → List (List ℕ)
after_a_turn cs = both 4 0 4 (v 0) (number (pos 1666)) ∷ both 1 0 1 (v 0) (number (pos 1)) ∷ bare 5 ∷ bare 0 ∷ cs

-- up from the root, a record that stops, stops in the next turn; the script's end comes in the same one
pub edge_holds :
    map shown (replies [] (arrives (with_budget 1 (after_a_turn (bare 8 ∷ [])) 6000) ∷ arrives (with_budget 2 (after_a_turn []) 6000) ∷ turn ∷ turn ∷ turn ∷ []))
    ≡ silent 1 ∷ silent 2 ∷ silent 1 ∷ told 2 0 0 5000 0 ∷ told 1 22 4 5000 0 ∷ []
unfolding computed Rounds.alone Rounds.fresh Rounds.admit Rounds.arrive Rounds.turn_of Rounds.unended Rounds.later Rounds.take_turn Rounds.happen Rounds.replies shown nobody silent told with_budget after_a_turn
edge_holds = refl
