-- Two jobs that differ in what the house owns, and what their runs show. Assumes nothing.
use Prim.Native.Nat.{ℕ}
use mathlib.Core.List.{List, [], ◌∷◌, map}
use lib.IntN.{ℤ, pos}
use Rattle.rules.specs.Limits.{no_parent}
use Rattle.rules.specs.Level.{public, secret}
use Rattle.rules.specs.Outcome.{Outcome, answer, board_lines, run_job}
use Rattle.rules.specs.Write.{node}
use Rattle.rules.specs.Trials.{job, pair, one, both, bare, v, number, value, with_places, usual, guarded}

-- ending, index and lines
pub record Seen : Type 0 where
  pub ending : ℕ
  pub index : ℕ
  pub lines : List ℤ

unfoldable pub seen : Outcome → Seen
seen w = record { ending = (answer w).ending; index = (answer w).index; lines = map (λ l. l.number) (board_lines w) }

unfoldable pub done : List ℤ → Seen
done ls = record { ending = 0; index = 0; lines = ls }

-- stopped by a rule
unfoldable pub blocked : ℕ → Seen
blocked i = record { ending = 21; index = i; lines = [] }

pub record Trap : Type 0 where
  pub came : List Outcome
  pub due : List Seen

unfoldable pub play : List ℕ → Outcome
play b = run_job b 100 (with_places 512)

-- house variable 1 and 0, over the usual tree
unfoldable pub by_value : List (List ℕ) → Seen → Seen → Trap
by_value cs a b = record { came = play (usual (pos 1) cs) ∷ play (usual (pos 0) cs) ∷ []; due = a ∷ b ∷ [] }

-- the same over a root that hides its number of children
unfoldable pub over_hidden : List (List ℕ) → List (List ℕ) → Seen → Seen → Trap
over_hidden below cs a b =
    let nodes = node no_parent public public secret (pos 10) ∷ below in
    record { came = play (job (pair (pos 1)) nodes cs) ∷ play (job (pair (pos 0)) nodes cs) ∷ []; due = a ∷ b ∷ [] }

-- if the value here is z, v0 := 1, end, root, print v0
unfoldable pub tell : ℤ → List (List ℕ)
tell z = both 2 0 3 value (number z) ∷ one 1 0 (number (pos 1)) ∷ bare 5 ∷ bare 7 ∷ one 6 0 (v 0) ∷ []

-- cover, if v1, first child, end: the cursor stands at the child or at the root, unseen
unfoldable pub covered : List (List ℕ)
covered = bare 16 ∷ guarded 9
