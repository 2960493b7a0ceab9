-- Histories by computation: what one script leaves the next one finds, also after a stop; each way to be turned away, which changes nothing; why the
-- secrecy rule ends at the first stop; and two histories that meet all that it asks. Assumes nothing.
use mathlib.Core.Path.{◌≡◌, refl}
use Prim.Native.Nat.{ℕ}
use mathlib.Core.List.{List, [], ◌∷◌, ◌++◌, map, flat_map}
use lib.IntN.{ℤ, pos}
use Rattle.rules.specs.Level.{public, secret}
use Rattle.rules.specs.Tree.{nil, tree}
use Rattle.rules.specs.Job.{listed}
use Rattle.rules.specs.Run.{no_variable}
use Rattle.rules.specs.Trials.{usual, one, bare, number, v, value, children, guarded, with_places, labelled, leaf, over, same}
use Rattle.rules.specs.History.{Store, FollowOn, follow, history, after_all, after_job, SameScripts}
use Rattle.rules.proofs.Computed.{computed}
use Rattle.rules.proofs.Pairs.{Seen, seen}
use Rattle.rules.proofs.Witness

-- ending, index and lines
unfoldable pub came : ℕ → ℕ → List ℤ → Seen
came k i ls = record { ending = k; index = i; lines = ls }

-- a bare section of some records, with a budget and a table
unfoldable pub script : ℕ → ℕ → List (List ℕ) → FollowOn
script budget places cs = record { section = flat_map (λ r. r) cs; budget = budget; lent = with_places places }

-- print children
count : FollowOn
count = script 100 512 (one 6 0 children ∷ [])

-- the store that the trials' job leaves, with the house variable h
unfoldable pub standing : ℤ → Store
standing h = after_job (usual h []) 100 (with_places 512)

pub scripts : List FollowOn
scripts =
    -- first child, new right sibling
    script 100 512 (bare 9 ∷ one 12 0 (number (pos 5)) ∷ []) ∷ count
    -- a part record; command 20 after a spare byte; a spare byte after a lone end; an unclosed block without a budget; no budget and too many places; too many places
    ∷ script 0 513 ((6 ∷ []) ∷ []) ∷ script 100 512 (one 9 3 (v 7) ∷ bare 20 ∷ []) ∷ script 0 512 (bare 5 ∷ one 9 3 (v 7) ∷ []) ∷ script 0 512 (one 2 0 (v 1) ∷ []) ∷ script 0 513 []
    ∷ script 100 513 [] ∷ count
    -- new first child, v0 := v1
    ∷ script 100 512 (one 11 0 (number (pos 7)) ∷ one 1 0 (v 1) ∷ []) ∷ count
    -- with a table that is full, or none; an empty section
    ∷ script 100 4 (one 11 0 (number (pos 8)) ∷ []) ∷ script 100 0 (one 11 0 (number (pos 8)) ∷ []) ∷ script 1 512 []
    -- first child, and an if that comes back: up, new first child, end, print value; then with the first child removed before
    ∷ script 100 512 (bare 9 ∷ one 17 0 (number (pos 1)) ∷ bare 8 ∷ one 11 0 (number (pos 9)) ∷ bare 5 ∷ one 6 0 value ∷ [])
    ∷ script 100 512 (bare 9 ∷ one 17 0 (number (pos 1)) ∷ bare 8 ∷ bare 13 ∷ one 11 0 (number (pos 6)) ∷ bare 5 ∷ [])
    -- last child, left sibling, print value
    ∷ script 100 512 (bare 19 ∷ bare 18 ∷ one 6 0 value ∷ []) ∷ []

pub due : List Seen
due =
    came 0 0 [] ∷ came 0 0 (pos 2 ∷ []) ∷ came 11 0 [] ∷ came 7 1 [] ∷ came 12 1 [] ∷ came 8 1 [] ∷ came 9 0 [] ∷ came 10 0 [] ∷ came 0 0 (pos 2 ∷ []) ∷ came 21 1 []
    ∷ came 0 0 (pos 3 ∷ []) ∷ came 23 0 [] ∷ came 23 0 [] ∷ came 0 0 [] ∷ came 0 0 (pos 7 ∷ []) ∷ came 22 5 [] ∷ came 0 0 (pos 3 ∷ []) ∷ []

pub history_holds : map seen (history (standing (pos 0)) scripts) ≡ due
unfolding computed seen came script count standing scripts due
history_holds = refl

-- what stands in the end
pub store_holds : (after_all (standing (pos 0)) scripts).tree ≡ over (leaf (pos 6) (leaf (pos 7) (leaf (pos 3) (leaf (pos 5) nil))))
unfolding computed seen came script count standing scripts
store_holds = refl

-- stores that no accepted job could hold, and the empty script over each
pub unholdable : List Store
unholdable =
    -- no root; two roots; a root of the house; a child below its parent's existence; a level that is no byte; 65 variables
    record { variables = []; tree = nil }
    ∷ record { variables = []; tree = leaf (pos 1) (leaf (pos 2) nil) }
    ∷ record { variables = []; tree = tree (labelled secret secret secret (pos 1)) nil nil }
    ∷ record { variables = []; tree = over (tree (labelled public public secret (pos 1)) (tree (labelled secret public secret (pos 2)) nil nil) nil) }
    ∷ record { variables = record { level = 256; value = pos 0 } ∷ []; tree = same }
    ∷ record { variables = listed (λ i. no_variable) 65 0; tree = same } ∷ []

pub unholdable_turned_away : map (λ s. seen (follow s (script 100 512 []))) unholdable ≡ map (λ s. came 11 0 []) unholdable
unfolding computed seen came script unholdable
unholdable_turned_away = refl

-- if v1, remove first child, end, v0 := 1; then print v0
unfoldable pub beyond : List FollowOn
beyond = script 100 512 (guarded 13 ++ (one 1 0 (number (pos 1)) ∷ [])) ∷ script 100 512 (one 6 0 (v 0) ∷ []) ∷ []

-- the house variable is 1, or 0: the first script stops in one history, and the second tells the two apart
pub stop_tells :
    (map seen (history (standing (pos 1)) beyond) ≡ came 21 1 [] ∷ came 0 0 (pos 0 ∷ []) ∷ [])
    × (map seen (history (standing (pos 0)) beyond) ≡ came 0 0 [] ∷ came 0 0 (pos 1 ∷ []) ∷ [])
unfolding computed seen came script standing beyond
stop_tells = (refl, refl)

-- over the two jobs of Witness: cover, if v1, v1 := 4, end, first child; then first child, write 8, print value
pub first : List FollowOn
first =
    script 100 512 (bare 16 ∷ one 2 0 (v 1) ∷ one 1 1 (number (pos 4)) ∷ bare 5 ∷ bare 9 ∷ [])
    ∷ script 100 512 (bare 9 ∷ one 15 0 (number (pos 8)) ∷ one 6 0 value ∷ []) ∷ []

-- the same with other budgets and tables
pub second : List FollowOn
second =
    script 50 2 (bare 16 ∷ one 2 0 (v 1) ∷ one 1 1 (number (pos 4)) ∷ bare 5 ∷ bare 9 ∷ [])
    ∷ script 9 300 (bare 9 ∷ one 15 0 (number (pos 8)) ∷ one 6 0 value ∷ []) ∷ []

pub same_scripts : SameScripts first second
unfolding computed script first second
same_scripts = refl

-- both histories finish, with a line
pub both_finish :
    (map seen (history (after_job Witness.left 100 (with_places 512)) first) ≡ came 0 0 [] ∷ came 0 0 (pos 8 ∷ []) ∷ [])
    × (map seen (history (after_job Witness.right 50 (with_places 2)) second) ≡ came 0 0 [] ∷ came 0 0 (pos 8 ∷ []) ∷ [])
unfolding computed seen came script first second Witness.script Witness.left Witness.right
both_finish = (refl, refl)
