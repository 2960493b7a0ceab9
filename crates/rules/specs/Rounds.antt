-- R-13: many scripts under one roof. Runs that take turns in a circle, which is a queue: what a newcomer and a turn do, and what holds from an empty
-- queue over any order of them. Assumes nothing.
use Rattle.std.specs.Prelude.{◌≡◌, ℕ, suc, ◌+◌, ◌-◌, ◌≤◌, ◌<◌, min, Bool, true, ◌&&◌, cond, List, [], ◌∷◌, ◌++◌, length, get_or, eqb, ltb}
use Rattle.std.proofs.Math.Option.{Option, none, some}
use Rattle.rules.specs.Limits.{no_place, max_runs, turn_steps}
use Rattle.rules.specs.Level.{Level}
use Rattle.rules.specs.Check.{Checked, accepted, refused}
use Rattle.rules.specs.Job.{script}
use Rattle.rules.specs.Run.{State, Buffers, spent, stop_number, Ended, run}
use Rattle.rules.specs.Outcome.{check_job, Outcome, rejected, ran, begin, run_job, ending_number}
use Rattle.rules.specs.Public.{Alike, Indistinguishable}

-- a newcomer: a job, "with its own .. line buffer and budget", and a name by which its caller tells it from others
pub record Newcomer : Type 0 where
  pub name : ℕ
  pub job : List ℕ
  pub budget : ℕ
  pub lent : Buffers

-- an unended run: the newcomer that it was, "its own tree, .. variables", and what is left of its budget
pub record Active : Type 0 where
  pub newcomer : Newcomer
  pub state : State
  pub left : ℕ

-- "newcomers and turns"
pub data Event : Type 0 where
  arrives : Newcomer → Event
  turn : Event

-- what is handed back: a place is taken; an answer; a turn was had; there is no run
pub data Reply : Type 0 where
  joins : Newcomer → Reply
  answers : Newcomer → Outcome → Reply
  goes_on : Newcomer → Reply
  idle : Reply

-- what stands after an event: the unended runs, the one whose turn is next first, and the reply
pub record After : Type 0 where
  pub queue : List Active
  pub reply : Reply

-- what becomes of a newcomer "alone"
unfoldable pub alone : Newcomer → Outcome
alone g = run_job g.job g.budget g.lent

-- a run before its first turn
unfoldable pub fresh : Newcomer → Active
fresh g = record { newcomer = g; state = begin g.job; left = g.budget }

-- "a newcomer joins at the back"; "A newcomer whose job is turned back takes no place."
unfoldable pub admit : List Active → Newcomer → Checked → After
admit q g accepted = record { queue = q ++ (fresh g ∷ []); reply = joins g }
admit q g (refused k i) = record { queue = q; reply = answers g (rejected k i) }

-- "15, a newcomer while eight runs are unended, checked before the job is read"
unfoldable pub arrive : List Active → Newcomer → After
arrive q g =
    cond (ltb (length q) max_runs) (admit q g (check_job g.job g.budget g.lent))
    (record { queue = q; reply = answers g (rejected no_place 0) })

-- what a run comes to in its turn: "each of 5,000 steps, or fewer only where the run ends"
unfoldable pub turn_of : Active → Ended
turn_of r = run r.newcomer.lent (script r.newcomer.job) (min turn_steps r.left) r.state

-- only the turn's steps are used up: "a run at its script's end or budget after its turn's last step ends in that turn"
unfoldable pub unended : Active → Bool
unended r = eqb (ending_number (turn_of r).ending) (stop_number spent) && ltb turn_steps r.left

-- the run after a turn that has not ended it
unfoldable pub later : Active → Active
later r = record { newcomer = r.newcomer; state = (turn_of r).last; left = r.left - turn_steps }

-- the turn of the run r, with q behind it: it goes to the back, or "the turn that ends it hands back its answer"
unfoldable pub take_turn : Active → List Active → After
take_turn r q =
    cond (unended r) (record { queue = q ++ (later r ∷ []); reply = goes_on r.newcomer })
    (record { queue = q; reply = answers r.newcomer (ran (turn_of r)) })

-- one event
unfoldable pub happen : List Active → Event → After
happen q (arrives g) = arrive q g
happen [] turn = record { queue = []; reply = idle }
happen (r ∷ q) turn = take_turn r q

-- the queue after some events
unfoldable pub queue_after : List Active → List Event → List Active
queue_after q [] = q
queue_after q (x ∷ xs) = queue_after (happen q x).queue xs

-- their replies
unfoldable pub replies : List Active → List Event → List Reply
replies q [] = []
replies q (x ∷ xs) = (happen q x).reply ∷ replies (happen q x).queue xs

-- "from an empty roof": the reply to event i
unfoldable pub reply_at : List Event → ℕ → Reply
reply_at xs i = get_or (replies [] xs) i idle

-- how many events are turns
unfoldable pub turns : List Event → ℕ
turns [] = 0
turns (arrives g ∷ xs) = turns xs
turns (turn ∷ xs) = suc (turns xs)

-- how many steps a turn takes
unfoldable pub turn_takes : List Active → ℕ
turn_takes [] = 0
turn_takes (r ∷ q) = (turn_of r).last.steps - r.state.steps

-- how many steps pass in some events
unfoldable pub steps_in : List Active → List Event → ℕ
steps_in q [] = 0
steps_in q (arrives g ∷ xs) = steps_in (happen q (arrives g)).queue xs
steps_in q (turn ∷ xs) = turn_takes q + steps_in (happen q turn).queue xs

-- who is taken in: with eight unended runs nobody, whatever the job; a job that is turned back is as it is alone, and takes no place
pub record Admission : Type 0 where
  pub full : (q : List Active) (g : Newcomer) → max_runs ≤ length q → happen q (arrives g) ≡ record { queue = q; reply = answers g (rejected no_place 0) }
  pub turned_back : (q : List Active) (g : Newcomer) (k i : ℕ) → length q < max_runs → alone g ≡ rejected k i
      → happen q (arrives g) ≡ record { queue = q; reply = answers g (rejected k i) }
  pub taken : (q : List Active) (g : Newcomer) (e : Ended) → length q < max_runs → alone g ≡ ran e
      → happen q (arrives g) ≡ record { queue = q ++ (fresh g ∷ []); reply = joins g }

-- "Each run .. ends with exactly the ending, steps, lines, variables and tree it has alone"
unfoldable pub AsAlone : Type 0
AsAlone = (xs : List Event) (i : ℕ) (g : Newcomer) (e : Ended) → reply_at xs i ≡ answers g (ran e) → alone g ≡ ran e

-- "a run at its script's end or budget after its turn's last step ends in that turn"; else the turn is of 5,000 steps
pub record EndsInTurn : Type 0 where
  pub at_script_end : (r : Active) (q : List Active) → length (script r.newcomer.job) ≤ (turn_of r).last.at
      → (happen (r ∷ q) turn).reply ≡ answers r.newcomer (ran (turn_of r))
  pub at_budget : (r : Active) (q : List Active) → r.left ≤ turn_steps → (happen (r ∷ q) turn).reply ≡ answers r.newcomer (ran (turn_of r))
  pub whole : (r : Active) (q : List Active) → (happen (r ∷ q) turn).reply ≡ goes_on r.newcomer → turn_takes (r ∷ q) ≡ turn_steps

-- r is the run whose turn is next
unfoldable pub InFront : Active → List Active → Type 0
InFront r q = (behind : List Active) × (q ≡ r ∷ behind)

-- after as many turns as there are others before it, whatever newcomers come, it is in front, as it was: at most seven turns, of at most 35,000 steps
pub record Waits (q : List Active) (ys : List Event) (others : List Active) (r : Active) : Type 0 where
  pub few : length others ≤ 7
  pub in_front : InFront r (queue_after q ys)
  pub steps : steps_in q ys ≤ 35000

-- "Between two turns of an unended run at most seven others have one, so at most 35,000 steps pass", and so before its first
pub record Fair : Type 0 where
  pub few : (xs : List Event) → length (queue_after [] xs) ≤ max_runs
  pub first : (xs ys : List Event) (others behind : List Active) (r : Active) → queue_after [] xs ≡ others ++ (r ∷ behind) → turns ys ≡ length others
      → Waits (queue_after [] xs) ys others r
  pub between : (xs ys : List Event) (r : Active) (others : List Active) → queue_after [] xs ≡ r ∷ others → unended r ≡ true → turns ys ≡ length others
      → Waits (happen (queue_after [] xs) turn).queue ys others (later r)

-- the answer of a run is among some replies
unfoldable pub Answered : Newcomer → List Reply → Type 0
Answered g ws = (i : ℕ) × (e : Ended) × (get_or ws i idle ≡ answers g (ran e))

-- each unended run comes to its end: after 1,600 turns, at most 200 of its own and seven others before each, its answer was handed back
unfoldable pub AllEnd : Type 0
AllEnd =
    (xs ys : List Event) (others behind : List Active) (r : Active) → queue_after [] xs ≡ others ++ (r ∷ behind) → 1600 ≤ turns ys
    → Answered r.newcomer (replies (queue_after [] xs) ys)

-- 1 for a newcomer of that name
unfoldable pub named : ℕ → Option Newcomer → ℕ
named a none = 0
named a (some g) = cond (eqb g.name a) 1 0

-- how often a name stands in a list, where f gives the newcomer of an entry
unfoldable pub times : {A : Type 0} → (A → Option Newcomer) → ℕ → List A → ℕ
times f a [] = 0
times f a (x ∷ xs) = named a (f x) + times f a xs

-- who joins by a reply
unfoldable pub joiner : Reply → Option Newcomer
joiner (joins g) = some g
joiner (answers g w) = none
joiner (goes_on g) = none
joiner idle = none

-- who ends by it
unfoldable pub ender : Reply → Option Newcomer
ender (joins g) = none
ender (answers g (rejected k i)) = none
ender (answers g (ran e)) = some g
ender (goes_on g) = none
ender idle = none

-- whoever has joined has ended, once, or is unended: nobody is lost, and nobody is answered twice
unfoldable pub NoneLost : Type 0
NoneLost =
    (xs : List Event) (a : ℕ)
    → times joiner a (replies [] xs) ≡ times ender a (replies [] xs) + times (λ r. some r.newcomer) a (queue_after [] xs)

-- "The secrecy rule holds for each run by itself", whatever goes on around it
unfoldable pub RoundsSecrecy : Level → Type 0
RoundsSecrecy o =
    (xs ys : List Event) (i j : ℕ) (g h : Newcomer) (w x : Outcome)
    → reply_at xs i ≡ answers g w → reply_at ys j ≡ answers h x → Alike o g.job h.job → Indistinguishable o w x
