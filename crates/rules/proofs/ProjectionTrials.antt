-- Views by computation: what is cut off and blotted out; two histories that a stop tells apart are one over the view; a run over the view may end elsewhere
-- than that over the store, either way; and two jobs with one script whose views are not one as bytes. Assumes nothing.
use mathlib.Core.Path.{◌≡◌, refl}
use Prim.Native.Nat.{ℕ}
use mathlib.Core.List.{List, [], ◌∷◌, map}
use lib.IntN.{ℤ, pos}
use Rattle.rules.specs.Limits.{no_parent}
use Rattle.rules.specs.Level.{public}
use Rattle.rules.specs.Check.{accepted, check_bytes}
use Rattle.rules.specs.Job as Job
use Rattle.rules.specs.Write.{variable, node}
use Rattle.rules.specs.Trials.{job, usual, one, both, bare, cover, number, v}
use Rattle.rules.specs.History.{history}
use Rattle.rules.specs.Projection.{view_store, project}
use Rattle.rules.proofs.Computed.{computed}
use Rattle.rules.proofs.Pairs.{seen, play, done}
use Rattle.rules.proofs.HistoryTrials.{came, script, standing, beyond}

-- party 0 has a variable, party 1 another; below the root a node of content 1 with a child of 2, a node of 1, and behind that a node of both
pub lent : List (List ℕ) → List ℕ
lent cs =
    job (variable 0 (pos 5) ∷ variable 1 (pos 6) ∷ variable 2 (pos 7) ∷ [])
    (node no_parent 0 0 3 (pos 10) ∷ node 0 0 1 2 (pos 11) ∷ node 1 2 2 2 (pos 12) ∷ node 0 1 1 1 (pos 13) ∷ node 0 3 3 3 (pos 14) ∷ []) cs

-- what party 0, party 1, nobody and everybody see of it
pub views_hold :
    (project 1 (lent (bare 7 ∷ [])) ≡ job (variable 0 (pos 5) ∷ variable 1 (pos 6) ∷ variable 2 (pos 0) ∷ []) (node no_parent 0 0 3 (pos 10) ∷ node 0 0 1 2 (pos 11) ∷ node 0 1 1 1 (pos 13) ∷ []) (bare 7 ∷ []))
    × (project 2 (lent (bare 7 ∷ [])) ≡ job (variable 0 (pos 5) ∷ variable 1 (pos 0) ∷ variable 2 (pos 7) ∷ []) (node no_parent 0 0 3 (pos 10) ∷ node 0 0 1 2 (pos 0) ∷ node 1 2 2 2 (pos 12) ∷ []) (bare 7 ∷ []))
    × (project 0 (lent (bare 7 ∷ [])) ≡ job (variable 0 (pos 5) ∷ variable 1 (pos 0) ∷ variable 2 (pos 0) ∷ []) (node no_parent 0 0 3 (pos 10) ∷ node 0 0 1 2 (pos 0) ∷ []) (bare 7 ∷ []))
    × (project 255 (lent (bare 7 ∷ [])) ≡ lent (bare 7 ∷ []))
unfolding computed lent
views_hold = (refl, refl, refl, refl)

-- the histories that a stop tells apart, over the view of the public
pub stop_tells_nothing :
    (map seen (history (view_store public (standing (pos 1))) beyond) ≡ came 0 0 [] ∷ came 0 0 (pos 1 ∷ []) ∷ [])
    × (map seen (history (view_store public (standing (pos 0))) beyond) ≡ came 0 0 [] ∷ came 0 0 (pos 1 ∷ []) ∷ [])
unfolding computed seen came script standing beyond
stop_tells_nothing = (refl, refl)

-- print 1, if v1 = z, remove first child, end, print 2
pub ending_where : ℤ → List (List ℕ)
ending_where z = one 6 0 (number (pos 1)) ∷ both 2 0 3 (v 1) (number z) ∷ bare 13 ∷ bare 5 ∷ one 6 0 (number (pos 2)) ∷ []

-- the house variable is 1: where the script stops for 1, it stops over the store alone, and where it stops for 0, over the view alone
pub ends_elsewhere :
    (map (λ b. seen (play b)) (usual (pos 1) (ending_where (pos 1)) ∷ project public (usual (pos 1) (ending_where (pos 1))) ∷ [])
    ≡ record { ending = 21; index = 2; lines = pos 1 ∷ [] } ∷ done (pos 1 ∷ pos 2 ∷ []) ∷ [])
    × (map (λ b. seen (play b)) (usual (pos 1) (ending_where (pos 0)) ∷ project public (usual (pos 1) (ending_where (pos 0))) ∷ [])
    ≡ done (pos 1 ∷ pos 2 ∷ []) ∷ record { ending = 21; index = 2; lines = pos 1 ∷ [] } ∷ [])
unfolding computed seen play done ending_where
ends_elsewhere = (refl, refl)

-- cover with the set 0 and with the set 1: one script, in two ways
pub one_script_two_ways :
    (check_bytes (usual (pos 0) (cover 0 ∷ [])) ≡ accepted) × (check_bytes (usual (pos 0) (cover 1 ∷ [])) ≡ accepted)
    × (Job.script (usual (pos 0) (cover 0 ∷ [])) ≡ Job.script (usual (pos 0) (cover 1 ∷ [])))
    × (lib.ListN.get_or (project 0 (usual (pos 0) (cover 0 ∷ []))) 45 0 ≡ 0) × (lib.ListN.get_or (project 0 (usual (pos 0) (cover 1 ∷ []))) 45 0 ≡ 1)
unfolding computed
one_script_two_ways = (refl, refl, refl, refl, refl)
