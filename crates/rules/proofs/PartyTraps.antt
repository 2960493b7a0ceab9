-- Pairs of jobs with sets of parties: who must not see a line, and who may. By computation. Assumes nothing.
use mathlib.Core.Path.{◌≡◌, refl}
use Prim.Native.Nat.{ℕ}
use mathlib.Core.List.{List, [], ◌∷◌, ◌++◌, map}
use lib.IntN.{pos}
use Rattle.rules.specs.Limits.{no_parent}
use Rattle.rules.specs.Level.{Level, public}
use Rattle.rules.specs.Write.{node}
use Rattle.rules.specs.Trials.{job, pair, setting, one, bare, cover, v, number, value}
use Rattle.rules.proofs.Computed.{computed}
use Rattle.rules.proofs.Pairs.{seen, done, blocked, Trap, play, by_value, covered}

-- cover by the second party, new first child 7 with the third on its content and the fourth on its list, first child, print value for a set
tell_new : Level → List (List ℕ)
tell_new readers = cover 2 ∷ setting 11 0 0 4 8 (number (pos 7)) (number (pos 0)) ∷ bare 9 ∷ one 6 readers value ∷ []

pub party_traps : List Trap
party_traps =
    -- sets of parties: what the first party owns is not for the second, though 1 is below 2, but for a reader of both
    by_value (one 6 2 (v 1) ∷ []) (blocked 0) (blocked 0)
    ∷ by_value (one 6 3 (v 1) ∷ []) (done (pos 1 ∷ [])) (done (pos 0 ∷ []))
    -- what is read under a cover by the second party is for the second, not for the first
    ∷ by_value (cover 2 ∷ one 6 1 value ∷ []) (blocked 1) (blocked 1)
    ∷ by_value (cover 2 ∷ one 6 2 value ∷ []) (done (pos 10 ∷ [])) (done (pos 10 ∷ []))
    -- cover joins: by the second party, under the first, stays the first's too
    ∷ by_value (covered ++ (cover 2 ∷ one 6 2 value ∷ [])) (blocked 5) (blocked 5)
    -- a line under a guard of the first party, for the second: if v1, print 5, end, print 6
    ∷ by_value (one 2 0 (v 1) ∷ one 6 2 (number (pos 5)) ∷ bare 5 ∷ one 6 2 (number (pos 6)) ∷ []) (blocked 1) (done (pos 6 ∷ []))
    -- a new node joins its sets: its value is for the second and third party, not for the first and third
    ∷ (let root = node no_parent public public 3 (pos 10) ∷ [] in
    record { came = play (job (pair (pos 0)) root (tell_new 5)) ∷ play (job (pair (pos 0)) root (tell_new 6)) ∷ []; due = blocked 3 ∷ done (pos 7 ∷ []) ∷ [] })
    -- a node of the first party in front of one of the second: the neighbour's existence has other parties, and neither is above the other. Cover, if v1, new first child,
    -- end, root, cover by the second, first child, print value for the second
    ∷ (let nodes = node no_parent public public 3 (pos 10) ∷ node 0 2 2 2 (pos 3) ∷ [] in
    let cs = bare 16 ∷ one 2 0 (v 1) ∷ one 11 0 (number (pos 7)) ∷ bare 5 ∷ bare 7 ∷ cover 2 ∷ bare 9 ∷ one 6 2 value ∷ [] in
    record { came = play (job (pair (pos 1)) nodes cs) ∷ play (job (pair (pos 0)) nodes cs) ∷ []; due = blocked 2 ∷ done (pos 3 ∷ []) ∷ [] })
    ∷ []

pub party_traps_hold : map (λ t. map seen t.came) party_traps ≡ map (λ t. t.due) party_traps
unfolding computed seen done blocked play by_value covered tell_new party_traps
party_traps_hold = refl
